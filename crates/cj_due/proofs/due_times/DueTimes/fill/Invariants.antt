-- fill: at each turn the times so far and those that are left are all that there were, and the rest of the slice is as
-- it was.
use Rattle.std.proofs.Common.{◌≡◌, ◌≤◌, ◌-◌, ◌++◌, length, take, drop}
use Rattle.cj_due.proofs.due_times.DueTimes.fill.Given as goal

abbrev pub invariant-loop-count : goal.invariant-loop-count
invariant-loop-count l = record {
  room : l.count ≤ length l.times;
  given : l.fn.self ≡ take l.count l.times ++ l.self;
  rest : drop l.count l.times ≡ drop l.count l.fn.times;
}

abbrev pub decreases-loop-count : goal.decreases-loop-count
decreases-loop-count l = length l.times - l.count
