-- plan_exists: its one clause, from the two start decisions, by whether a Job of the CronJob runs.
use Rattle.std.specs.Option.{option_copied}
use Rattle.cj_decide.proofs.Decided.{some_plan}
use Rattle.cj_decide.proofs.existence.plan_exists.Goals as goal

pub returns : goal.returns
returns c =
    some_plan c.args.cron.now c.args.jobs.now c.args.found.now c.args.now
    (option_copied c.args.zone) c.start_decisions-decisions.result.0 c.start_decisions-decisions.result.1
    c.start_decisions-decisions.ensures.busy c.start_decisions-decisions.ensures.idle
