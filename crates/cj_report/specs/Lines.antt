-- The line of a step.
use Rattle.std.specs.Prelude.{ℕ, List, ◌++◌, codes, Option, Some, None, Result}
use Rattle.std.specs.Fmt.{decimal}
use Rattle.cj_base.specs.declared.refusal.Refusal.{Refusal}
use Rattle.cj_calls.specs.declared.reply.Reply.{Reply}
use Rattle.cj_script.specs.declared.operations.verb.Verb.{Verb}
use Rattle.cj_report.specs.Answers.{answer_text}
use Rattle.cj_report.specs.Words.{verb_word}

-- the place of an entry in the history, counted from 1
-- rule: step-line
abbrev pub place_text : Option ℕ → List ℕ
place_text None = codes "-"
place_text (Some number) = decimal number

-- `PLACE WHO DO ANSWER`
-- rule: step-line
abbrev pub step_line : Option ℕ → List ℕ → Verb → Result Reply Refusal → List ℕ
step_line place who verb answer =
    place_text place ++ (codes " " ++ (who
    ++ (codes " " ++ (verb_word verb ++
    (codes " " ++ (answer_text verb answer ++ codes "\n"))))))
