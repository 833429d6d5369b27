-- follow: its clause followed, of the informer's steps, and of what was noted of the Jobs that it tells of.
use Rattle.std.proofs.Common.{List, ap, length, subst, sym}
use Rattle.cj_hub.specs.declared.receipt.Receipt.{Receipt}
use Rattle.cj_run.specs.Drivers.{watch_of}
use Rattle.cj_run.specs.Rounds.{FollowsOn}
use Rattle.cj_run.specs.declared.rest.Follower.{Follower}
use Rattle.cj_run.proofs.Went.{follows_on}
use Rattle.cj_run.proofs.drive.follow.Goals as goal

pub returns-clause-followed : goal.returns-clause-followed
returns-clause-followed g c =
    let runs = c.args.simulation.now.runs in
    let before = watch_of c.args.driver.now in
    let after = watch_of c.note.new.driver in
    subst (λ (f : Follower). FollowsOn runs c.args.now c.args.driver.now.follower f before after)
    (sym c.note.ensures.follower)
    (follows_on runs c.args.now _ _ c.args.driver.now.follower c.settle.new.self before after c.from.ensures
    (ap (λ (rs : List Receipt). length rs) c.receipts-known.ensures) c.in_ok-rest.ensures c.in_ok-note.ensures.made)
