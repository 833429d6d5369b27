-- has_blank, its loop over the bytes: none of those gone through is a blank.
use Rattle.std.proofs.Common.{◌≡◌, drop}
use Rattle.cj_report.specs.history.Fields.{has_blank}
use Rattle.cj_report.proofs.history.fields.has_blank.Given as goal

abbrev pub invariant-loop-c : goal.invariant-loop-c
invariant-loop-c l = has_blank (drop l.c-index l.text) ≡ has_blank l.text
