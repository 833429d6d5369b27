-- comes_to_rest, its loop: what the entries gone through have was seen, with the newest first.
use Rattle.std.proofs.Common.{◌≤◌, take}
use mathlib.Core.List.{reverse}
use Rattle.cj_run.specs.Upkeep.{Looks}
use Rattle.cj_run.proofs.upkeep.comes_to_rest.Given as goal

abbrev pub invariant-loop-entry : goal.invariant-loop-entry
invariant-loop-entry l = record {
  short : l.upkeep.progress.begun ≤ l.entry-index;
  looks : Looks l.span l.upkeep (reverse (take l.entry-index l.entries));
}
