-- decision: its clause ok, that the steps are those of the one start decision.
use Rattle.std.proofs.Common.{◌≡◌, ◌∙◌, ap, subst, Bool, List, Option}
use Rattle.std.specs.Option.{option_copied}
use Rattle.std.proofs.lemmas.Result.{IfOk-weaker}
use Rattle.cj_types.specs.declared.cron.CronJob.{CronJob}
use Rattle.cj_types.specs.declared.job.Job.{Job}
use Rattle.cj_types.specs.Uids.{uid_text}
use Rattle.cj_status.specs.declared.refs.JobRef.{JobRef}
use Rattle.cj_status.specs.Mine.{present}
use Rattle.cj_status.specs.Picked.{running}
use Rattle.cj_status.specs.Refs.{has_any}
use Rattle.cj_decide.specs.Decision.{running_of}
use Rattle.cj_decide.specs.StartDecisions.{IsStartDecision}
use Rattle.cj_decide.proofs.steps.decision.Goals as goal

-- What is told of whether there are running Jobs is whether a Job of the CronJob runs.
busy : (cron : CronJob) (found : List (Option Job)) (refs : List JobRef) (any : Bool)
    → refs ≡ running (uid_text cron.meta.uid) (present found) → any ≡ has_any refs
    → any ≡ has_any (running_of cron found)
busy cron found refs any r e = e ∙ ap has_any r

pub returns-clause-ok : goal.returns-clause-ok
returns-clause-ok c =
    let any = busy c.args.cron.now c.args.found.now c.in_ok-running.running c.has_any.result
    c.in_ok-running.ensures.ok c.has_any.ensures in
    IfOk-weaker c.steps_of.result _ _
    (λ s h. record {
      start = c.decide_start-start.result;
      decided = subst (λ b. IsStartDecision c.args.cron.now (option_copied c.args.zone) b c.args.now
          c.decide_start-start.result)
          any c.decide_start-start.ensures;
      meant = h;
    })
    c.steps_of.ensures.ok
