-- meant, its loop: found, or a nearer one of the names that are left, is the one that may be meant.
use Rattle.std.proofs.Common.{◌≡◌, map, drop}
use Rattle.std.specs.Prelude.{option_map}
use Rattle.cj_answers.specs.Nearest.{below, meant, nearest}
use Rattle.cj_answers.proofs.nearest.meant.Given as goal

abbrev pub invariant-loop-name : goal.invariant-loop-name
invariant-loop-name l =
    below l.text l.above (option_map (λ n. n.now) l.found)
    (nearest l.text (map (λ n. n.now) (drop l.name-index l.names)))
    ≡ meant l.text (map (λ n. n.now) l.names)
