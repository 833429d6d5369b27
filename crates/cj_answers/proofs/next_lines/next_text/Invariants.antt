-- next_text, its loop: text, with the lines that are still to come after at, is the whole text.
use Rattle.std.proofs.Common.{◌-◌, string_bytes}
use Rattle.cj_answers.proofs.NextLemmas.{Continues}
use Rattle.cj_answers.proofs.next_lines.next_text.Given as goal

abbrev pub invariant-loop : goal.invariant-loop
invariant-loop l = Continues l.schedule l.zone l.fn.after l.fn.count l.at (l.fn.count - l.counter) (string_bytes l.text)
