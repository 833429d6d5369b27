-- note_all_late: at each turn the gaps among the due times up to the instant at are noted.
use Rattle.std.proofs.Common.{◌≡◌, ◌≤◌, ◌<◌, ◌-◌, ◌++◌}
use Rattle.cj_due.specs.Due.{missed_times}
use Rattle.cj_history.specs.gaps.Late.{unsynced}
use Rattle.cj_history.specs.gaps.Syncs.{last_scheduled}
use Rattle.cj_history.specs.gaps.reading.Known.{has}
use Rattle.cj_history.specs.gaps.reading.Listed.{gaps_with}
use Rattle.cj_history.specs.gaps.reading.Settled.{is_settled}
use Rattle.cj_history.proofs.gaps.late.note_all_late.Given as goal

abbrev pub invariant-loop-time : goal.invariant-loop-time
invariant-loop-time l = record {
  noted : l.late.items ≡ l.fn.late.items
      ++ gaps_with (is_settled (has l.marks) l.listed l.standing.cron.meta.uid) l.standing.cron unsynced
      (missed_times l.schedule l.standing.zone (last_scheduled l.standing.cron) l.at);
  low : last_scheduled l.standing.cron ≤ l.at;
  high : last_scheduled l.standing.cron < l.at → l.at ≤ l.hi;
}

abbrev pub decreases-loop-time : goal.decreases-loop-time
decreases-loop-time l = l.hi - l.at
