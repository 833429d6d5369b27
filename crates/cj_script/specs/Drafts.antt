-- What a manifest of a script says, or its first fault.
use Rattle.std.specs.Prelude.{List, [], ◌∷◌, Option, Some, None, Result, Ok, Err}
use Rattle.serde_json.specs.Data.{Data}
use Rattle.cj_base.specs.declared.faults.FieldFault.{FieldFault}
use Rattle.cj_types.specs.declared.cron.CronJobDraft.{CronJobDraft}
use Rattle.cj_types.specs.declared.job.JobDraft.{JobDraft}
use Rattle.cj_zone.specs.declared.zone.Zone.{Zone}
use Rattle.cj_manifest.specs.Drafts.{cron_draft, job_draft}
use Rattle.cj_manifest.specs.Faults.{cron_faults, job_faults}
use Rattle.cj_scenario.specs.declared.fault.SceneFault.{SceneFault}
use Rattle.cj_scenario.specs.declared.fault.SceneFault.TheVariants.{Form, Manifest}

-- what must be there
abbrev pub needed : {A : Type 0} → Option A → Result A SceneFault
needed None = Err Form
needed (Some x) = Ok x

-- the next part, unless one before it is refused
abbrev pub then : {A B : Type 0} → Result A SceneFault → (A → Result B SceneFault)
    → Result B SceneFault
then (Ok x) f = f x
then (Err e) f = Err e

-- the draft of a manifest with these faults
-- rule: script-order
abbrev pub drafted : {A : Type 0} → List FieldFault → Option A → Result A SceneFault
drafted [] draft = needed draft
drafted (fault ∷ others) draft = Err (Manifest fault)

-- a CronJob's, under the zones
unfoldable pub cron_said : List Zone → Data → Result CronJobDraft SceneFault
cron_said zones m = drafted (cron_faults zones m) (cron_draft m)

-- a Job's
unfoldable pub job_said : Data → Result JobDraft SceneFault
job_said m = drafted (job_faults m) (job_draft m)
