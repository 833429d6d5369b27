-- names: its loop; at each turn the text so far and that of the rest are all.
use Rattle.std.proofs.Common.{◌≡◌, ◌++◌, drop, string_bytes}
use Rattle.cj_upcoming.specs.Lines.{names}
use Rattle.cj_upcoming.proofs.lines.names.Given as goal

abbrev pub invariant-loop-start : goal.invariant-loop-start
invariant-loop-start l = string_bytes l.text ++ names l.crons (drop l.start-index l.starts) ≡ names l.crons l.starts
