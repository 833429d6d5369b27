-- What a call can be answered.
use Rattle.std.specs.Prelude.{◌≡◌, ◌⊎◌, Bool, true, false, Result, Err}
use Rattle.cj_base.specs.declared.refusal.Refusal.{Refusal}
use Rattle.cj_base.specs.declared.refusal.Refusal.TheVariants.{Empty}
use Rattle.cj_calls.specs.Rows.{is_in_row}
use Rattle.cj_calls.specs.declared.caller.Caller.{Caller}
use Rattle.cj_calls.specs.declared.call.Call.{Call}
use Rattle.cj_calls.specs.declared.reply.Reply.{Reply}
use Rattle.cj_state.specs.declared.state.State.{State}
use Rattle.cj_state.specs.WorkerCalls.{Handled}
use Rattle.cj_state.specs.Step.{step_of}
use Rattle.cj_state.specs.Legal.{is_entered}

abbrev pub is_empty : Result Reply Refusal → Bool
is_empty (Err Empty) = true
is_empty _ = false

-- nothing was there to take, and all is as it was; or the answer is entered, and is one of the
-- call's
abbrev pub Fine : State → Call → Handled → Type 0
Fine s call m = ((is_empty m.answer ≡ true) × (m.state ≡ s))
    ⊎ ((is_empty m.answer ≡ false) × (is_entered m.answer ≡ true)
    × (is_in_row call m.answer ≡ true))

-- whoever calls whatever
-- rule: legal
abbrev pub AnswersFit : Type 0
AnswersFit = (s : State) (caller : Caller) (call : Call) → Fine s call (step_of s caller call)
