-- find_place: at each turn of its loop, a put of the name keeps the entries before the place i,
-- and goes on as a put among the rest.
use Rattle.std.proofs.Common.{◌≡◌, ℕ, List, ◌++◌, take, drop}
use Rattle.cj_types.specs.LabelMap.{put_label}
use Rattle.cj_types.proofs.labels.find_place.Given as goal

abbrev pub invariant-loop-i : goal.invariant-loop-i
invariant-loop-i l = (v : List ℕ) → put_label l.name v l.items ≡ take l.i l.items
    ++ put_label l.name v (drop l.i l.items)
