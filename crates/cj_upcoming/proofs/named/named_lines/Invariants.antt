-- named_lines: its loop; at each turn the lines so far, with those of the changes left, are those of all.
use Rattle.std.proofs.Common.{drop, string_bytes}
use Rattle.cj_upcoming.proofs.NamedLines.{Leads}
use Rattle.cj_upcoming.proofs.named.named_lines.Given as goal

abbrev pub invariant-loop-at : goal.invariant-loop-at
invariant-loop-at l = Leads l.schedule l.zone l.utc l.changes (drop l.at-index l.changes) (string_bytes l.lines)
