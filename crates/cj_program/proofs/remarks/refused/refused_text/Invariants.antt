-- refused_text, its loop: how far the run is with the entries gone through, with the newest first, and what was
-- refused.
use Rattle.std.proofs.Common.{◌≡◌, ◌≤◌, take, string_bytes}
use mathlib.Core.List.{reverse}
use Rattle.cj_run.specs.Turns.{progress_of}
use Rattle.cj_program.specs.remarks.Refused.{refused_lines}
use Rattle.cj_program.proofs.remarks.refused.refused_text.Given as goal

abbrev pub invariant-loop-entry : goal.invariant-loop-entry
invariant-loop-entry l = record {
  short : l.progress.begun ≤ l.entry-index;
  progress : l.progress ≡ progress_of l.span (reverse (take l.entry-index l.entries));
  text : string_bytes l.text ≡ refused_lines l.span (reverse (take l.entry-index l.entries));
}
