-- is_open_in_kubernetes, its loop: the rest is a text, and each turn leaves less of it.
use denote.Shadow.{shadow}
use denote.Text.{Utf8}
use Rattle.std.proofs.Common.{length}
use Rattle.cj_check.proofs.crontab.day_rule.is_open_in_kubernetes.Given as goal

abbrev pub invariant-loop-element : goal.invariant-loop-element
invariant-loop-element l = shadow (Utf8 l.rest)

abbrev pub decreases-loop-element : goal.decreases-loop-element
decreases-loop-element l = length l.rest
