-- note_times: at each turn the gaps among the due times up to the instant at are listed.
use Rattle.std.proofs.Common.{◌≡◌, ◌≤◌, ◌<◌, ◌-◌, ◌++◌}
use Rattle.cj_due.specs.Due.{missed_times}
use Rattle.cj_history.specs.gaps.reading.Known.{has}
use Rattle.cj_history.specs.gaps.reading.Listed.{gaps_among}
use Rattle.cj_history.proofs.gaps.find.note_times.Given as goal

abbrev pub invariant-loop-time : goal.invariant-loop-time
invariant-loop-time l = record {
  noted : l.listed ≡ l.fn.listed
      ++ gaps_among (has l.marks) l.fn.listed l.cron l.plan (missed_times l.schedule l.zone l.fn.lo l.at);
  low : l.fn.lo ≤ l.at;
  high : l.fn.lo < l.at → l.at ≤ l.hi;
}

abbrev pub decreases-loop-time : goal.decreases-loop-time
decreases-loop-time l = l.hi - l.at
