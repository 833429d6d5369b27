-- after: the place is that behind the bytes passed, which are no more than all.
use Rattle.std.proofs.Common.{◌≡◌, ◌-◌, ◌≤◌}
use Rattle.cj_yaml.specs.Places.{place_after}
use Rattle.cj_yaml.proofs.place.Place.after.Given as goal

abbrev pub invariant-loop-at : goal.invariant-loop-at
invariant-loop-at l =
    (l.place ≡ place_after l.text l.from (l.at - l.from) l.fn.self) × (l.at - l.from ≤ l.to - l.from)
