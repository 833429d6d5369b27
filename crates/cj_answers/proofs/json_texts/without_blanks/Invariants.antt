-- without_blanks: only blanks are before what is left.
use Rattle.cj_answers.specs.Objects.{IsBehind}
use Rattle.cj_answers.proofs.json_texts.without_blanks.Given as goal

abbrev pub invariant-loop : goal.invariant-loop
invariant-loop l = IsBehind l.rest l.bytes
