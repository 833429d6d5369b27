-- note_row: its loop and its clause ok, as the row ends.
use Rattle.std.proofs.Common.{◌∙◌, ◌-◌, ◌+◌, sym, arith, rules}
use Rattle.cj_audit.specs.Missing.{row_most}
use Rattle.cj_audit.proofs.Rows.{rows_end, rows_quiet, rows_step, rows_stop}
use Rattle.cj_audit.proofs.missing.note_row.Goals as goal

pub loop-turn-preserved : goal.loop-turn-preserved
loop-turn-preserved c =
    rows_step c.args.schedule.now c.args.zone.now c.args.cron.now c.args.marks.now c.args.run.now c.args.first
    (row_most - (c.loop-turn.turn + 1)) (row_most - c.loop-turn.turn) c.loop-turn.last c.in-Some.time c.args.notes.now
    c.loop-turn.notes c.note_hole.new.notes (omega arith) c.loop-turn.invariant c.in-Some.ensures.some
    c.in_ok-note_hole.ensures.ok (sym c.has.ensures ∙ c.if-has.false)

pub returns-in_default-clause-ok : goal.returns-in_default-clause-ok
returns-in_default-clause-ok c =
    rows_quiet c.args.schedule.now c.args.zone.now c.args.cron.now c.args.marks.now c.args.run.now c.args.first
    (row_most - c.loop-turn.turn) c.loop-turn.last c.args.notes.now c.loop-turn.notes c.loop-turn.invariant
    (c.next_after.ensures.none (search rules))

pub returns-then-has-clause-ok : goal.returns-then-has-clause-ok
returns-then-has-clause-ok c =
    rows_stop c.args.schedule.now c.args.zone.now c.args.cron.now c.args.marks.now c.args.run.now c.args.first
    (row_most - (c.loop-turn.turn + 1)) (row_most - c.loop-turn.turn) c.loop-turn.last c.in-Some.time c.args.notes.now
    c.loop-turn.notes c.note_hole.new.notes (omega arith) c.loop-turn.invariant c.in-Some.ensures.some
    c.in_ok-note_hole.ensures.ok (sym c.has.ensures ∙ c.if-has.true)

pub returns-clause-ok : goal.returns-clause-ok
returns-clause-ok c =
    rows_end c.args.schedule.now c.args.zone.now c.args.cron.now c.args.marks.now c.args.run.now c.args.first
    (row_most - c.loop-turn.turn) c.loop-turn.last c.args.notes.now c.loop-turn.notes (omega arith)
    c.loop-turn.invariant
