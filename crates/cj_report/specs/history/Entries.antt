-- The lines of a history.
use Rattle.std.specs.Prelude.{ℕ, ◌+◌, List, [], ◌∷◌, ◌++◌, codes, Result, Ok, Err}
use Rattle.std.specs.Fmt.{decimal}
use Rattle.cj_base.specs.declared.refusal.Refusal.{Refusal}
use Rattle.cj_calls.specs.Rows.{Told}
use Rattle.cj_calls.specs.declared.call.Call.{Call}
use Rattle.cj_calls.specs.declared.call.Call.TheVariants as Of
use Rattle.cj_calls.specs.declared.caller.Caller.{Caller}
use Rattle.cj_calls.specs.declared.reply.Reply.{Reply}
use Rattle.cj_script.specs.declared.operations.verb.Plain.TheVariants as Kind
use Rattle.cj_script.specs.declared.operations.verb.Verb.{Verb}
use Rattle.cj_script.specs.declared.operations.verb.Verb.TheVariants.{Does}
use Rattle.cj_report.specs.Answers.{answer_text}
use Rattle.cj_report.specs.Called.{about, call_word, role_word}
use Rattle.cj_report.specs.Columns.{key_word}
use Rattle.cj_report.specs.Objects.{moment_text}
use Rattle.cj_report.specs.history.Fields.{asked}
use Rattle.cj_report.specs.history.Listed.{listed}
use Rattle.cj_report.specs.timeline.Moments.{told_moment}

-- only of a Job that is made an answer has the name
abbrev pub answers_as : Call → Verb
answers_as Of.MakeNext = Does Kind.Make
answers_as call = Does Kind.Take

abbrev pub answer_fields : Result Reply Refusal → List ℕ
answer_fields (Ok reply) = listed reply
answer_fields (Err refusal) = []

-- `NUMBER ROLE TIME NAMESPACE/NAME`: who called, the moment in the call, and the object that it is
-- about
-- rule: history-lines
unfoldable pub asked_words : Caller → Call → Result Reply Refusal → List ℕ
asked_words caller call answer =
    decimal caller.number ++ (codes " " ++
    (role_word caller.role ++ (codes " "
    ++ (moment_text (told_moment call) ++ (codes " " ++ key_word (about call answer))))))

-- `DO ANSWER`, as the line of a step has them, and what else call and answer say
-- rule: history-lines
unfoldable pub answered_words : Call → Result Reply Refusal → List ℕ
answered_words call answer =
    call_word call ++ (codes " " ++ (answer_text (answers_as call) answer
    ++ (asked call ++ answer_fields answer)))

-- the place of the entry, counted from 1, and what it says
-- rule: history-lines
abbrev pub entry_line : ℕ → Told → List ℕ
entry_line place e =
    decimal place ++ (codes " " ++ (asked_words e.caller e.call e.answer
    ++ (codes " " ++ (answered_words e.call e.answer ++ codes "\n"))))

abbrev pub entry_lines : ℕ → List Told → List ℕ
entry_lines place [] = []
entry_lines place (e ∷ es) = entry_line place e ++ entry_lines (place + 1) es

-- a line for each entry, the oldest first
-- rule: history-lines
abbrev pub history_lines : List Told → List ℕ
history_lines entries = entry_lines 1 entries
