-- enroll, its loop: none of the passes so far has a receipt.
use Rattle.std.specs.Prelude.{All}
use Rattle.cj_run.specs.Actions.{IsUnused}
use Rattle.cj_run.proofs.run.enroll.Given as goal

abbrev pub invariant-loop : goal.invariant-loop
invariant-loop g l = All IsUnused l.passes.items
