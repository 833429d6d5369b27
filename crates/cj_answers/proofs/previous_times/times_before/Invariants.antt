-- times_before, its loop: the times, with those that are still to come before at, are all.
use Rattle.std.proofs.Common.{◌-◌}
use Rattle.cj_answers.proofs.PreviousLemmas.{Recedes}
use Rattle.cj_answers.proofs.previous_times.times_before.Given as goal

abbrev pub invariant-loop : goal.invariant-loop
invariant-loop l = Recedes l.schedule l.zone l.fn.before l.fn.count l.at (l.fn.count - l.counter) l.times.items
