-- are_numbered, its loop: those left are numbered from there on just where all are from 0 on.
use Rattle.std.proofs.Common.{◌≡◌, drop}
use Rattle.std.specs.Prelude.{◌↔◌}
use Rattle.cj_run.specs.Participants.{AreNumbered}
use Rattle.cj_run.proofs.participants.are_numbered.Given as goal

abbrev pub invariant-loop-caller : goal.invariant-loop-caller
invariant-loop-caller l = record {
  at : l.number ≡ l.caller-index;
  same : AreNumbered l.number (drop l.caller-index l.callers) ↔ AreNumbered 0 l.callers;
}
