-- follow: its clause adds, where the Feed is refused, where the Adds break off, where all are made.
use Rattle.std.proofs.Common.{◌++◌}
use Rattle.cj_hub.proofs.Runs.{adds-then, adds-weaker}
use Rattle.cj_informer.specs.Outcomes.{HasFollowed}
use Rattle.cj_informer.proofs.Goes.{handed_on}
use Rattle.cj_informer.proofs.Steps.{not_fed, followed_broken, followed}
use Rattle.cj_informer.proofs.watching.follow.Goals as goal

pub returns-in_err-_fed-clause-adds : goal.returns-in_err-_fed-clause-adds
returns-in_err-_fed-clause-adds g c =
    let e = c.in_err-_fed.field-0.0 in
    adds-weaker c.in_err-_fed.ensures.adds (λ es h.
    handed_on c.from_residual.result e (λ r. HasFollowed c.args.max c.args.from c.args.events.now r es)
    c.from_residual.ensures.1
    (not_fed c.args.max c.args.from c.args.events.now e es h))

pub returns-in_err-add_all-clause-adds : goal.returns-in_err-add_all-clause-adds
returns-in_err-add_all-clause-adds g c =
    let e = c.in_err-add_all.field-0.0 in
    adds-then c.in_ok-_fed.ensures.adds c.in_err-add_all.ensures.adds (λ es fs h k.
    handed_on c.from_residual-in_err-add_all.result e
    (λ r. HasFollowed c.args.max c.args.from c.args.events.now r (es ++ fs)) c.from_residual-in_err-add_all.ensures.1
    (followed_broken c.args.max c.args.from c.in_ok-_fed._fed c.args.events.now e es fs h k))

pub returns-clause-adds : goal.returns-clause-adds
returns-clause-adds g c =
    adds-then c.in_ok-_fed.ensures.adds c.in_ok-add_all.ensures.adds
    (λ es fs h k. followed c.args.max c.args.from c.in_ok-_fed._fed c.args.events.now c.last_seen.result es fs h k
    c.last_seen.ensures)
