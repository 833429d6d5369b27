-- lines_of: its loop; at each turn the lines so far and those of the rest are all.
use Rattle.std.proofs.Common.{◌≡◌, ◌++◌, drop, string_bytes}
use Rattle.cj_audit.specs.Lines.{lines_of}
use Rattle.cj_audit.proofs.lines.lines_of.Given as goal

abbrev pub invariant-loop-finding : goal.invariant-loop-finding
invariant-loop-finding l = string_bytes l.text ++ lines_of (drop l.finding-index l.findings) ≡ lines_of l.findings
