-- scene_why: its ensures, from that of asked_why for the scene's CronJob, zone and active Jobs.
use Rattle.std.proofs.Common.{◌∙◌, ap, subst, string_bytes, List, Option}
use Rattle.std.specs.Prelude.{IfOk, option_copied}
use Rattle.cj_types.specs.declared.cron.CronJob.{CronJob}
use Rattle.cj_types.specs.declared.cron.CronSpec.{CronSpec}
use Rattle.cj_types.specs.declared.job.Job.{Job}
use Rattle.cj_zone.specs.declared.zone.Zone.{Zone}
use Rattle.cj_zone.specs.Table.{zones_of}
use Rattle.cj_why.specs.reviews.ZoneFor.{zone_for}
use Rattle.cj_check.specs.Plan.{IsAskedWhy}
use Rattle.cj_check.proofs.plan.scene_why.Goals as goal

pub returns : goal.returns
returns c =
    let r = c.asked_why.result in
    let cron = c.get-cron.ensures in
    let zone = c.zone_of-zone.ensures
    ∙ ap (λ (x : CronSpec). zone_for x.time_zone (zones_of c.args.scene.now.zones)) c.deref.ensures
    ∙ ap (λ (x : CronJob). zone_for x.spec.time_zone (zones_of c.args.scene.now.zones)) cron in
    subst (λ (x : CronJob). IfOk r (λ s. IsAskedWhy c.args.explain x
    (zone_for c.args.scene.now.cron.spec.time_zone (zones_of c.args.scene.now.zones)) c.args.scene.now.active
    c.args.now (string_bytes s))) cron
    (subst (λ (z : Option Zone). IfOk r (λ s. IsAskedWhy c.args.explain c.get-cron.result.now z c.args.scene.now.active
    c.args.now (string_bytes s))) zone
    (subst (λ (f : List (Option Job)). IfOk r (λ s. IsAskedWhy c.args.explain c.get-cron.result.now
    (option_copied c.zone_of-zone.result) f c.args.now (string_bytes s))) c.as_slice.ensures
    c.asked_why.ensures))
