-- note_schedule: its clause ok, as it goes on where the last sync ended.
use Rattle.std.proofs.lemmas.Result.{on_ok_weaker}
use Rattle.cj_history.specs.gaps.reading.Known.{has}
use Rattle.cj_history.proofs.GapsLemmas.IntervalLemmas.{goes_schedule}
use Rattle.cj_history.proofs.gaps.find.note_schedule.Goals as goal

pub returns-clause-ok : goal.returns-clause-ok
returns-clause-ok c =
    on_ok_weaker _
    (λ put. goes_schedule (has c.args.marks.now) c.args.listed.now c.note_times.new.listed c.args.intervals.now
    c.put.new.self c.args.cron.now c.get.result.now c.get-2.result.now c.args.plan.now c.args.schedule.now
    c.args.zone.now c.get-3.result.now c.get-4.result.now c.in_ok-try_copy.field-0 c.last_scheduled-from.result
    c.seen_upto-lo.result c.moment.result c.later.result c.get.ensures c.get-2.ensures c.get-3.ensures c.get-4.ensures
    c.in_ok-try_copy.ensures.ok c.last_scheduled-from.ensures c.moment.ensures c.later.ensures
    c.seen_upto-lo.ensures.low c.seen_upto-lo.ensures.seen c.in_ok-note_times.ensures.ok put)
    c.put.ensures.ok
