-- note_times: its loop; at each turn the due times of the window before the next are noted, and those after the next
-- are left.
use Rattle.std.proofs.Common.{◌≡◌, IfSome}
use Rattle.cj_due.specs.DueTimes.{due_times}
use Rattle.cj_upcoming.specs.Notes.{Notes}
use Rattle.cj_upcoming.proofs.Walks.{TimesTo, next_at, left_of, Awaits}
use Rattle.cj_upcoming.proofs.times.note_times.Given as goal

abbrev pub invariant-loop-next : goal.invariant-loop-next
invariant-loop-next l = record {
  noted : Notes (TimesTo l.window l.schedule l.zone l.cron (next_at l.next l.window.end)) l.initial.starts l.starts;
  awaits : Awaits l.window l.schedule l.zone l.next;
  left : IfSome l.next (λ t. l.times ≡ due_times l.schedule l.zone t l.window.end);
}

abbrev pub decreases-loop-next : goal.decreases-loop-next
decreases-loop-next l = left_of l.next l.window.end
