-- seen_in, its loop: what the entries gone through have was seen, with the newest first.
use Rattle.std.proofs.Common.{◌≤◌, take}
use mathlib.Core.List.{reverse}
use Rattle.cj_run.specs.Validation.{Sees}
use Rattle.cj_run.proofs.validation.seen_in.Given as goal

abbrev pub invariant-loop-entry : goal.invariant-loop-entry
invariant-loop-entry l = record {
  short : l.seen.progress.begun ≤ l.entry-index;
  sees : Sees l.span l.callers l.user l.seen (reverse (take l.entry-index l.entries));
}
