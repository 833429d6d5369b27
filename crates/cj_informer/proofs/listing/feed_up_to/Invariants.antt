-- feed_up_to: its loop; at each turn each Feed so far brought more, and less is left to be fed.
use Rattle.std.proofs.Common.{◌-◌}
use Rattle.cj_hub.specs.Runs.{Adds}
use Rattle.cj_informer.proofs.Feeds.{IsFeeding}
use Rattle.cj_informer.proofs.listing.feed_up_to.Given as goal

abbrev pub invariant-loop-max : goal.invariant-loop-max
invariant-loop-max g l =
    Adds g.D.Desk.tells (g.D.Desk.history l.fn.desk) (g.D.Desk.history l.desk) l.fn.pass l.pass
    (IsFeeding l.max l.wanted l.fed)

abbrev pub decreases-loop-max : goal.decreases-loop-max
decreases-loop-max g l = l.wanted - l.fed
