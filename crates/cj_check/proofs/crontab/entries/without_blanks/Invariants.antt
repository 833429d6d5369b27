-- without_blanks, its loop: the blanks in front of the rest are those of the bytes, and each turn leaves less.
use Rattle.std.proofs.Common.{◌≡◌, length}
use Rattle.cj_check.specs.Crontab.{without_blanks}
use Rattle.cj_check.proofs.crontab.entries.without_blanks.Given as goal

abbrev pub invariant-loop-rest : goal.invariant-loop-rest
invariant-loop-rest l = without_blanks l.rest ≡ without_blanks l.bytes

abbrev pub decreases-loop-rest : goal.decreases-loop-rest
decreases-loop-rest l = length l.rest
