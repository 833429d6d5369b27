-- change_lines: its loop; at each turn the lines so far and those of the rest are all.
use Rattle.std.proofs.Common.{◌≡◌, ◌++◌, drop, string_bytes}
use Rattle.cj_upcoming.specs.Changes.{change_lines}
use Rattle.cj_upcoming.proofs.changes.change_lines.Given as goal

abbrev pub invariant-loop-at : goal.invariant-loop-at
invariant-loop-at l =
    string_bytes l.text ++ change_lines l.zone (drop l.at-index l.changes) ≡ change_lines l.zone l.changes
