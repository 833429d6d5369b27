-- has_line, its loop: the rest is a text, and each turn leaves less of it.
use denote.Shadow.{shadow}
use denote.Text.{Utf8}
use Rattle.std.proofs.Common.{length}
use Rattle.cj_check.proofs.crontab.shell.has_line.Given as goal

abbrev pub invariant-loop-first : goal.invariant-loop-first
invariant-loop-first l = shadow (Utf8 l.rest)

abbrev pub decreases-loop-first : goal.decreases-loop-first
decreases-loop-first l = length l.rest
