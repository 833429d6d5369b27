-- The objects of a scenario, and what a reading of its bytes answers.
use Rattle.std.specs.Prelude.{◌≡◌, ℕ, ◌+◌, ◌/◌, List, [], ◌∷◌, map, Option, Some, None}
use Rattle.serde_json.specs.Data.{Data}
use Rattle.cj_base.specs.declared.faults.FieldFault.{FieldFault}
use Rattle.cj_types.specs.declared.cron.CronJob.{CronJob}
use Rattle.cj_types.specs.declared.cron.CronJobDraft.{CronJobDraft}
use Rattle.cj_types.specs.declared.job.Job.{Job}
use Rattle.cj_types.specs.declared.meta.DraftMeta.{DraftMeta}
use Rattle.cj_types.specs.declared.meta.Meta.{Meta}
use Rattle.cj_types.specs.Made.{made_job}
use Rattle.cj_zone.specs.Table.{local_zone, zones_of}
use Rattle.cj_zone.specs.TimeText.{time_text_of}
use Rattle.cj_io.specs.declared.zone_files.given.GivenZones.{GivenZones}
use Rattle.cj_manifest.specs.Drafts.{cron_draft}
use Rattle.cj_manifest.specs.Faults.{cron_faults}
use Rattle.cj_manifest.specs.Reading.{IsNoValue, Reads}
use Rattle.cj_scenario.specs.declared.fault.SceneFault.{SceneFault}
use Rattle.cj_scenario.specs.declared.fault.SceneFault.TheVariants.{Form as FormFault, Manifest, Memory, Syntax}
use Rattle.cj_scenario.specs.declared.given.GivenJob.{GivenJob}
use Rattle.cj_scenario.specs.declared.scene.Scene.{Scene}
use Rattle.cj_scenario.specs.Live.{live_jobs, names_of}
use Rattle.cj_scenario.specs.Scenes.{Form, IsForm, IsNoForm}

-- ---- objects

-- of a new object: the count is of its creation and of its write
abbrev pub fresh_meta : ℕ → ℕ → DraftMeta → Meta
fresh_meta count created draft = record {
  uid = count;
  version = count;
  generation = 1;
  created = created;
  labels = draft.labels;
  annotations = draft.annotations;
}

-- the CronJob that the first create of all makes of a draft, whose uid and version are dropped,
-- with its last schedule time
abbrev pub scene_cron : CronJobDraft → ℕ → Option ℕ → CronJob
scene_cron draft created last = record {
  key = draft.key;
  meta = fresh_meta 1 created draft.meta;
  spec = draft.spec;
  status = record { active = []; last_schedule_time = last; last_successful_time = None };
}

-- with these names of Jobs that run
abbrev pub with_active : CronJob → List (List ℕ) → CronJob
with_active cron names = record {
  key = cron.key;
  meta = cron.meta;
  spec = cron.spec;
  status = record {
    active = names;
    last_schedule_time = cron.status.last_schedule_time;
    last_successful_time = cron.status.last_successful_time;
  };
}

-- no two Jobs have one minute, and none the CronJob's count
abbrev pub count_of : GivenJob → ℕ
count_of given = given.time / 60 + 2

-- the Job that the CronJob makes for the time, as one that was created at that time and is in the
-- state that the scenario says
abbrev pub scene_job : CronJob → GivenJob → Job
scene_job cron given =
    let draft = made_job cron given.time (time_text_of given.time) in
    record {
      key = draft.key;
      meta = fresh_meta (count_of given) given.time draft.meta;
      owners = draft.owners;
      spec = draft.spec;
      outcome = given.outcome;
    }

-- ---- the answer

-- a value of the form, whose manifest has no fault under the zones that are given and those in it,
-- says this
pub record Says (given : GivenZones) (d : Data) (s : Scene) : Type 0 where
  pub form : Form
  pub formed : IsForm given d form
  pub draft : CronJobDraft
  pub sound : cron_faults form.zones form.manifest ≡ []
  pub drafted : cron_draft form.manifest ≡ Some draft
  pub zones : zones_of s.zones ≡ form.zones
  pub local : local_zone s.zones ≡ local_zone given.rules
  pub cron : s.cron ≡ with_active (scene_cron draft form.created form.last)
      (names_of (live_jobs s.jobs))
  pub jobs : s.jobs ≡ map (scene_job s.cron) form.jobs
  pub active : s.active ≡ map (λ job. Some job) (live_jobs s.jobs)

-- what the bytes of a scenario say
-- rule: plan-scenario
abbrev pub IsScene : GivenZones → List ℕ → Scene → Type 0
IsScene given bytes s = (d : Data) × Reads bytes d × Says given d s

-- the first of a manifest's faults, or there was no memory
abbrev pub IsFirst : List FieldFault → SceneFault → Type 0
IsFirst faults (Manifest fault) = (others : List FieldFault) × (faults ≡ fault ∷ others)
IsFirst faults Memory = Unit {0}
IsFirst faults other = ⊥

-- a value of the form, whose manifest is at fault under these zones
pub record HasFault (given : GivenZones) (d : Data) (e : SceneFault) : Type 0 where
  pub form : Form
  pub formed : IsForm given d form
  pub first : IsFirst (cron_faults form.zones form.manifest) e

-- why a value is no scenario: it has no such form; else its manifest is at fault; or there was no
-- memory
abbrev pub IsRefusedValue : GivenZones → Data → SceneFault → Type 0
IsRefusedValue given d FormFault = IsNoForm given d
IsRefusedValue given d (Manifest fault) = HasFault given d (Manifest fault)
IsRefusedValue given d Memory = Unit {0}
IsRefusedValue given d Syntax = ⊥

-- why bytes are none: they are no JSON; else the value that they are is none; or there was no
-- memory
-- rule: plan-scenario
abbrev pub IsRefusedScene : GivenZones → List ℕ → SceneFault → Type 0
IsRefusedScene given bytes Syntax = IsNoValue bytes
IsRefusedScene given bytes Memory = Unit {0}
IsRefusedScene given bytes e = (d : Data) × Reads bytes d × IsRefusedValue given d e
