-- put_edits, its loop: so many had begun before each edit of the instant among those gone through.
use Rattle.std.proofs.Common.{◌≡◌, ◌++◌, map, take}
use Rattle.cj_run.specs.Simulations.{edits_at}
use Rattle.cj_run.proofs.validation.put_edits.Given as goal

abbrev pub invariant-loop-edit : goal.invariant-loop-edit
invariant-loop-edit l =
    l.turns.items ≡ l.initial.turns.items ++ map (λ _. l.n) (edits_at (take l.edit-index l.edits) l.at)
