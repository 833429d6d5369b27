-- note_row: its loop; at each turn the rest of the row is still to be noted.
use Rattle.std.proofs.Common.{◌-◌}
use Rattle.cj_audit.specs.Missing.{row_most}
use Rattle.cj_audit.proofs.Rows.{Rows}
use Rattle.cj_audit.proofs.missing.note_row.Given as goal

abbrev pub invariant-loop-turn : goal.invariant-loop-turn
invariant-loop-turn l =
    Rows l.schedule l.zone l.cron l.marks l.run l.initial.last (row_most - l.turn) l.last l.initial.notes l.notes
