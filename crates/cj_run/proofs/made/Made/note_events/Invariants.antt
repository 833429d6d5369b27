-- Made::note_events, its loop over the events: to note the Jobs that those left tell of gives what to note all gave at
-- first.
use Rattle.std.proofs.Common.{◌≡◌, drop}
use Rattle.std.specs.List.{filter_map}
use Rattle.cj_run.specs.Made.{job_added, noted_all, notes}
use Rattle.cj_run.proofs.made.Made.note_events.Given as goal

abbrev pub invariant-loop-event : goal.invariant-loop-event
invariant-loop-event l =
    noted_all l.runs l.now l.noted_before (filter_map job_added (drop l.event-index l.events))
    (notes l.self.last l.self.counts l.self.running.items)
    ≡ noted_all l.runs l.now l.noted_before (filter_map job_added l.events)
    (notes l.initial.self.last l.initial.self.counts
    l.initial.self.running.items)
