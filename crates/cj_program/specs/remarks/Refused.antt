-- What a user of a run asked for and was refused, each with the instant of the clock.
use Rattle.std.specs.Prelude.{ℕ, List, [], ◌∷◌, ◌++◌, codes, nat_le, if◌then◌else◌, Result, Err}
use Rattle.cj_base.specs.declared.refusal.Refusal.{Refusal}
use Rattle.cj_calls.specs.Rows.{Told}
use Rattle.cj_calls.specs.declared.call.Call.{Call}
use Rattle.cj_calls.specs.declared.caller.Role.{Role}
use Rattle.cj_calls.specs.declared.caller.Role.TheVariants.{User}
use Rattle.cj_calls.specs.declared.reply.Reply.{Reply}
use Rattle.cj_script.specs.simulation.Spans.{SpanView, instant}
use Rattle.cj_zone.specs.TimeText.{time_text_of}
use Rattle.cj_run.specs.Turns.{turn}
use Rattle.cj_report.specs.Called.{call_word}
use Rattle.cj_program.specs.remarks.Calls.{place_in, place_text, refusal_words}

-- `At TIME DO NAMESPACE/NAME was refused: WHY`
-- rule: explain-refused
unfoldable pub refused_line : ℕ → Call → Refusal → List ℕ
refused_line at call refusal =
    codes "At " ++ (time_text_of at ++ (codes " " ++ (call_word call ++ (place_text (place_in call)
    ++ (codes " was refused: " ++ (refusal_words refusal ++ codes "\n"))))))

-- the instant that begins where that many have begun; of a clock that has no more, which no run
-- gets to, its start
abbrev pub moment : SpanView → ℕ → ℕ
moment s n = if nat_le (instant s n) s.end then instant s n else s.start

-- of an entry at that instant: a line where a user's call was refused
abbrev pub line_if : ℕ → Role → Call → Result Reply Refusal → List ℕ
line_if at User call (Err refusal) = refused_line at call refusal
line_if at role call answer = []

-- of a history, the newest entry first: the lines come in the order of the entries
-- rule: explain-refused
abbrev pub refused_lines : SpanView → List Told → List ℕ
refused_lines s [] = []
refused_lines s (e ∷ h) = refused_lines s h
    ++ line_if (moment s (turn s h)) e.caller.role e.call e.answer
