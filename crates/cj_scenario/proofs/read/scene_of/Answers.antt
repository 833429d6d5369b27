-- scene_of: its clause said, and what draft_of requires, that the manifest isn't too deep.
use Rattle.std.proofs.Common.{◌≡◌, ◌∙◌, ap, sym, List, [], map, Some, codes}
use Rattle.serde_json.specs.Data.{Data}
use Rattle.serde_json.specs.Read.{max_depth}
use Rattle.serde_json.specs.View.{view}
use Rattle.cj_types.specs.declared.cron.CronJob.{CronJob}
use Rattle.cj_types.specs.declared.cron.CronJobDraft.{CronJobDraft}
use Rattle.cj_types.specs.declared.job.Job.{Job}
use Rattle.cj_zone.specs.Table.{local_zone, zones_of}
use Rattle.cj_io.specs.declared.zone_files.given.GivenZones.{GivenZones}
use Rattle.cj_manifest.specs.Drafts.{cron_draft}
use Rattle.cj_manifest.specs.Faults.{cron_faults}
use Rattle.cj_scenario.specs.declared.form.Parts.{Parts}
use Rattle.cj_scenario.specs.declared.scene.Scene.{Scene}
use Rattle.cj_scenario.specs.Live.{live_jobs, names_of}
use Rattle.cj_scenario.specs.Made.{scene_cron, scene_job, with_active, Says}
use Rattle.cj_scenario.specs.Parts.{form_of}
use Rattle.cj_scenario.specs.Scenes.{IsForm}
use Rattle.cj_scenario.proofs.Depth.{depth-present}
use Rattle.cj_scenario.proofs.read.scene_of.Goals as goal

pub draft_of-requires : goal.draft_of-requires
draft_of-requires c =
    let whole = view c.args.value.now in
    let manifest = view c.in_ok-parts.parts.manifest.now in
    record {
      flat = depth-present (codes "manifest") whole manifest max_depth c.requires.flat
          c.in_ok-parts.ensures.ok.manifest;
    }

-- what the parts say, with the scene of the Jobs that they give
says : (given : GivenZones) (d : Data) (s : Scene) (p : Parts) (draft : CronJobDraft) (cron : CronJob) (jobs : List Job)
    → IsForm given d (form_of p)
    → cron_faults (zones_of p.zones) (view p.manifest.now) ≡ [] → cron_draft (view p.manifest.now) ≡ Some draft
    → local_zone p.zones ≡ local_zone given.rules
    → cron ≡ scene_cron draft p.created p.last → jobs ≡ map (scene_job cron) p.jobs.items
    → s.zones ≡ p.zones → s.cron ≡ with_active cron (names_of (live_jobs jobs)) → s.jobs ≡ jobs
    → s.active ≡ map (λ job. Some job) (live_jobs jobs) → Says given d s
says given d s p draft cron jobs formed sound drafted local c j z sc sj sa = record {
  form = form_of p;
  formed = formed;
  draft = draft;
  sound = sound;
  drafted = drafted;
  zones = ap zones_of z;
  local = ap local_zone z ∙ local;
  cron = sc ∙ ap (λ js. with_active cron (names_of (live_jobs js))) (sym sj)
      ∙ ap (λ x. with_active x (names_of (live_jobs s.jobs))) c;
  jobs = sj ∙ j ∙ ap (λ x. map (scene_job x) p.jobs.items) (sym sc);
  active = sa ∙ ap (λ js. map (λ job. Some job) (live_jobs js)) (sym sj);
}

pub returns-clause-said : goal.returns-clause-said
returns-clause-said c =
    says c.args.given (view c.args.value.now) c.in_ok-scene.scene c.in_ok-parts.parts c.in_ok-draft.draft
    c.scene_cron-cron.result
    c.in_ok-jobs.jobs.items
    c.in_ok-parts.ensures.ok c.in_ok-draft.ensures.sound c.in_ok-draft.ensures.said c.in_ok-parts.ensures.local
    c.scene_cron-cron.ensures
    (c.in_ok-jobs.ensures.ok ∙ ap (λ g. map (scene_job c.scene_cron-cron.result) g) c.as_slice.ensures.value)
    c.in_ok-scene.ensures.zones c.in_ok-scene.ensures.cron c.in_ok-scene.ensures.jobs c.in_ok-scene.ensures.active
