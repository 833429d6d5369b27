-- entries_of, its loop: the lines gone through have their entries, and each turn leaves fewer lines.
use Rattle.std.proofs.Common.{length}
use Rattle.cj_check.proofs.CrontabLines.{Reads, lines_left}
use Rattle.cj_check.proofs.crontab.entries.entries_of.Given as goal

abbrev pub invariant-loop-rest : goal.invariant-loop-rest
invariant-loop-rest l = Reads l.bytes l.number l.rest l.reading.entries.items

abbrev pub decreases-loop-rest : goal.decreases-loop-rest
decreases-loop-rest l = length (lines_left l.rest)
