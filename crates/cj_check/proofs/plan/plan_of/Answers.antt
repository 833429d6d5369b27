-- plan_of: its ensures, that the steps are the plan of the scene at that moment.
use Rattle.std.proofs.Common.{◌≡◌, ◌∙◌, ap, subst, ℕ, List, Option}
use Rattle.cj_types.specs.declared.cron.CronJob.{CronJob}
use Rattle.cj_types.specs.declared.job.Job.{Job}
use Rattle.cj_zone.specs.declared.zone.Zone.{Zone}
use Rattle.cj_zone.specs.Table.{zones_of}
use Rattle.cj_decide.specs.Decision.{IsDecided, IsPlan, Planned}
use Rattle.cj_why.specs.reviews.ZoneFor.{zone_for}
use Rattle.cj_check.proofs.plan.plan_of.Goals as goal

-- a plan is the one of what it rests on
rests : (p : Planned) (cron : Option CronJob) (jobs : List Job) (found : List (Option Job)) (now : ℕ) (z : Option Zone)
    → p.cron ≡ cron
    → p.jobs ≡ jobs → p.active ≡ found → p.at ≡ now → p.zone ≡ z → IsDecided p → IsPlan cron jobs found now z p.steps
rests p cron jobs found now z a b l c d h =
    subst (λ x. IsPlan cron jobs found now x p.steps) d
    (subst (λ x. IsPlan cron jobs found x p.zone p.steps) c
    (subst (λ x. IsPlan cron jobs x p.at p.zone p.steps) l
    (subst (λ x. IsPlan cron x p.active p.at p.zone p.steps) b
    (subst (λ x. IsPlan x p.jobs p.active p.at p.zone p.steps) a h))))

pub returns : goal.returns
returns c =
    let e = c.in_ok-decide.ensures in
    rests c.in_ok-decide.field-0 _ _ _ _ _ e.cron e.jobs e.active e.at (e.zone ∙ c.in_ok-zone.ensures.ok
    ∙ ap (λ (x : CronJob). zone_for x.spec.time_zone (zones_of c.args.scene.zones)) c.get.ensures) e.decided
