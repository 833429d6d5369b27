-- push_blanks, its loop: so many blanks as turns stand behind what was there.
use Rattle.std.proofs.Common.{◌≡◌, ◌++◌, string_bytes, replicate}
use Rattle.cj_report.proofs.columns.push_blanks.Given as goal

abbrev pub invariant-loop : goal.invariant-loop
invariant-loop l = string_bytes l.text ≡ string_bytes l.initial.text ++ replicate l.counter 32
