-- turns_wanted, its loop: these are of the creations and of the edits of the first n instants.
use Rattle.std.proofs.Common.{◌≡◌}
use Rattle.cj_run.specs.Turns.{turns_below}
use Rattle.cj_run.proofs.validation.turns_wanted.Given as goal

abbrev pub invariant-loop-n : goal.invariant-loop-n
invariant-loop-n l = l.turns.items ≡ turns_below l.simulation l.n
