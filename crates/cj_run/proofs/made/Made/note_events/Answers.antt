-- Made::note_events: its loop over the events, with one event more.
use Rattle.std.proofs.Common.{◌∙◌}
use Rattle.cj_run.specs.Made.{notes}
use Rattle.cj_run.proofs.Noted.{event_more}
use Rattle.cj_run.proofs.made.Made.note_events.Goals as goal

pub loop-event-preserved : goal.loop-event-preserved
loop-event-preserved c =
    let before = notes c.loop-event.self.last c.loop-event.self.counts c.loop-event.self.running.items in
    let after = c.note_event.new.self in
    event_more c.args.runs.now c.args.now c.args.self.now.last c.args.events.now c.loop-event.event-index
    c.event-item.result
    before (notes after.last after.counts after.running.items)
    c.loop-event-test.true c.event-item.is c.in_ok-note_event.ensures.ok
    ∙ c.loop-event.invariant
