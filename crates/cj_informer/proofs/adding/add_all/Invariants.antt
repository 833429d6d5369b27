-- add_all: its loop; at each turn the Adds for the items passed were made, all accepted.
use Rattle.std.proofs.Common.{◌≡◌, take}
use Rattle.std.specs.List.{filter_map}
use Rattle.cj_hub.specs.Runs.{Adds}
use Rattle.cj_informer.specs.Exchanges.{exchanges}
use Rattle.cj_informer.specs.Informs.{adds}
use Rattle.cj_informer.proofs.adding.add_all.Given as goal

abbrev pub invariant-loop-item : goal.invariant-loop-item
invariant-loop-item g l =
    Adds g.D.Desk.tells (g.D.Desk.history l.initial.desk) (g.D.Desk.history l.desk) l.initial.pass l.pass
    (λ es. exchanges es ≡ adds (filter_map g.T.Concerns.concerned (take l.item-index l.items)))
