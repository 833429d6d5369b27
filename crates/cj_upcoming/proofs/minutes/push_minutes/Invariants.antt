-- push_minutes: at each turn the minutes so far, with those of what is left, are those of all.
use Rattle.std.proofs.Common.{◌≡◌, ◌++◌, ◌+◌, drop}
use Rattle.cj_upcoming.specs.Minutes.{minutes_from}
use Rattle.cj_upcoming.proofs.minutes.push_minutes.Given as goal

abbrev pub invariant-loop-next : goal.invariant-loop-next
invariant-loop-next l = record {
  same : l.minutes.items ++ minutes_from l.minute.time l.minute.first l.minute.count (drop l.next-index l.rest)
      ≡ l.initial.minutes.items ++ minutes_from l.start.time 0 1 l.rest;
  count : l.minute.first + l.minute.count ≡ l.next-index + 1;
}
