-- event_items, its loop: text and the items of those left are the items of all.
use Rattle.std.proofs.Common.{◌≡◌, ◌++◌, drop, string_bytes}
use Rattle.cj_report.specs.history.Listed as said
use Rattle.cj_report.proofs.history.listed.event_items.Given as goal

abbrev pub invariant-loop-event : goal.invariant-loop-event
invariant-loop-event l = string_bytes l.text ++ said.event_items (drop l.event-index l.events)
    ≡ said.event_items l.events
