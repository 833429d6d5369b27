-- peak_lines: its loop; at each turn the text so far and that of the rest are all.
use Rattle.std.proofs.Common.{◌≡◌, ◌++◌, drop, string_bytes}
use Rattle.cj_upcoming.specs.Lines.{peak_lines}
use Rattle.cj_upcoming.proofs.lines.peak_lines.Given as goal

abbrev pub invariant-loop-minute : goal.invariant-loop-minute
invariant-loop-minute l = string_bytes l.text
    ++ peak_lines l.crons l.starts (drop l.minute-index l.minutes) ≡ peak_lines l.crons l.starts l.minutes
