-- next_scan: at each turn nothing is due after lo up to the instant at, and the tests so far
-- are within the budget up to it and no more than the minutes passed.
use Rattle.std.proofs.Common.{◌≡◌, ◌<◌, ◌≤◌, ◌+◌, ◌-◌, ◌/◌, ℕ, false}
use Rattle.cj_due.specs.Budget.{budget}
use Rattle.cj_due.specs.Due.{due}
use Rattle.cj_due.proofs.intervals.next_scan.Given as goal

abbrev pub invariant-loop-at : goal.invariant-loop-at
invariant-loop-at l = record {
  quiet : (t : ℕ) → l.lo < t → t ≤ l.at → due l.schedule l.zone t ≡ false;
  low : l.lo ≤ l.at;
  high : l.at ≤ l.hi;
  counted : (first : ℕ) → first ≤ l.lo / 86_400 → budget l.schedule first
      (l.lo / 60 + 1) + l.tested ≤ budget l.schedule first (l.at / 60 + 1);
  bounded : l.lo / 60 + l.tested ≤ l.at / 60;
}

abbrev pub decreases-loop-at : goal.decreases-loop-at
decreases-loop-at l = l.hi - l.at
