-- catch_up: its clause adds, where the Feeds break off, where the Adds do, and where all are made.
use Rattle.std.proofs.Common.{◌++◌}
use Rattle.cj_hub.proofs.Runs.{adds-then, adds-weaker}
use Rattle.cj_informer.specs.Outcomes.{HasCaughtUp}
use Rattle.cj_informer.proofs.Goes.{handed_on}
use Rattle.cj_informer.proofs.Steps.{caught_up_not_fed, caught_up_broken, caught_up}
use Rattle.cj_informer.proofs.listing.catch_up.Goals as goal

pub returns-in_err-feed_up_to-clause-adds : goal.returns-in_err-feed_up_to-clause-adds
returns-in_err-feed_up_to-clause-adds g c =
    let e = c.in_err-feed_up_to.field-0.0 in
    adds-weaker c.in_err-feed_up_to.ensures.adds (λ es h.
    handed_on c.from_residual.result e (λ r. HasCaughtUp c.args.max c.args.seen c.args.crons.now c.args.jobs.now r es)
    c.from_residual.ensures.1
    (caught_up_not_fed c.args.max c.args.seen c.args.crons.now c.args.jobs.now e es h))

pub returns-in_err-add_listed-clause-adds : goal.returns-in_err-add_listed-clause-adds
returns-in_err-add_listed-clause-adds g c =
    let e = c.in_err-add_listed.field-0.0 in
    adds-then c.in_ok-feed_up_to.ensures.adds c.in_err-add_listed.ensures.adds (λ es fs h k.
    handed_on c.from_residual-in_err-add_listed.result e
    (λ r. HasCaughtUp c.args.max c.args.seen c.args.crons.now c.args.jobs.now r (es ++ fs))
    c.from_residual-in_err-add_listed.ensures.1
    (caught_up_broken c.args.max c.args.seen c.args.crons.now c.args.jobs.now e es fs h k))

pub returns-clause-adds : goal.returns-clause-adds
returns-clause-adds g c =
    adds-then c.in_ok-feed_up_to.ensures.adds c.in_ok-add_listed.ensures.adds
    (λ es fs h k. caught_up c.args.max c.args.seen c.args.crons.now c.args.jobs.now es fs h k)
