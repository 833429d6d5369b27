-- What steps that are made one after the other print, and the history that they leave. Histories
-- have the newest entry first.
use Rattle.std.specs.Prelude.{◌≡◌, ℕ, ◌+◌, nat_le, Bool, true, false, ◌||◌, List, [], ◌∷◌, ◌++◌, length, if◌then◌else◌, Option, Some, None, Result, Err}
use Rattle.std.specs.FinMap as map
use Rattle.cj_base.specs.declared.refusal.Refusal.{Refusal}
use Rattle.cj_base.specs.declared.refusal.Refusal.TheVariants.{HistoryFull, OutOfMemory}
use Rattle.cj_types.specs.Keys.{Place}
use Rattle.cj_types.specs.WorldLimits.{Kept}
use Rattle.cj_types.specs.declared.job.Job.{Job}
use Rattle.cj_zone.specs.declared.table.ZoneTable.{ZoneTable}
use Rattle.cj_calls.specs.declared.call.Call.{Call}
use Rattle.cj_calls.specs.declared.caller.Caller.{Caller}
use Rattle.cj_calls.specs.declared.reply.Reply.{Reply}
use Rattle.cj_calls.specs.Rows.{Told}
use Rattle.cj_state.specs.Legal.{answer_of, is_entered, state_of}
use Rattle.cj_world.specs.Worlds.{told}
use Rattle.cj_report.specs.Lines.{step_line}
use Rattle.cj_script.specs.declared.operations.operation.Operation.{Operation}
use Rattle.cj_script.specs.declared.operations.operation.Operation.TheVariants.{Ends}
use Rattle.cj_script.specs.declared.step.Step.{Step}
use Rattle.cj_script.specs.operations.Calls.{IsCallOf}
use Rattle.cj_state.specs.declared.phases.sync.InFlight.{InFlight}
use Rattle.cj_state.specs.WorkerCalls.{sync_of}

-- ---- one step

-- the sync of the caller of that number, if it has one
-- rules: claim-step, finish-step
abbrev pub sync_after : ℕ → List Told → ℕ → Option InFlight
sync_after window h number = sync_of (state_of window h) number

-- the Job at the key
abbrev pub job_at : ℕ → List Told → Place → Option Job
job_at window h key = map.get (state_of window h).store.jobs key

-- the Job at the key of the end that an operation asks for; none at another operation
abbrev pub job_for : (Place → Option Job) → Operation → Option Job
job_for job_at (Ends key outcome at) = job_at key
job_for job_at other = None

-- what a call is answered after the history: HistoryFull at a full one, else what the history gives
-- rule: replay-lines
abbrev pub answered : Kept → List Told → Caller → Call → Result Reply Refusal
answered limits h caller call = if nat_le limits.history (length h) then Err HistoryFull else
    answer_of limits.window h caller call

-- the place of its entry, if it is entered, counted from 1
abbrev pub place_after : List Told → Result Reply Refusal → Option ℕ
place_after h answer = if is_entered answer then Some (length h + 1) else None

-- the history with its entry, if it is entered
abbrev pub after : List Told → Caller → Call → Result Reply Refusal → List Told
after h caller call answer = if is_entered answer then told caller call answer ∷ h else h

abbrev pub is_full : Result Reply Refusal → Bool
is_full (Err HistoryFull) = true
is_full other = false

abbrev pub wants_memory : Result Reply Refusal → Bool
wants_memory (Err OutOfMemory) = true
wants_memory other = false

-- the step's line is that of the answer that the history so far gives to its call, and its entry is
-- added; and whether the history was found full
-- rule: replay-lines
pub record MakesStep (zones : ZoneTable) (limits : Kept) (h : List Told) (step : Step)
    (line : List ℕ) (full : Bool) (h' : List Told) : Type 0 where
  pub call : Call
  pub means : IsCallOf zones (sync_after limits.window h step.caller.number)
      (job_at limits.window h) step.operation call
  pub answer : Result Reply Refusal
  pub given : answer ≡ answered limits h step.caller call
  pub printed : line ≡ step_line (place_after h answer) step.who step.verb answer
  pub found : full ≡ is_full answer
  pub leaves : h' ≡ after h step.caller call answer

-- ---- all steps

-- a step makes, and the others go on from what it leaves
pub record MakesFirst (zones : ZoneTable) (limits : Kept) (h : List Told) (step : Step)
    (text : List ℕ) (full : Bool) (Others : List Told → List ℕ → Bool → Type 0) : Type 0 where
  pub line : List ℕ
  pub rest : List ℕ
  pub now : Bool
  pub later : Bool
  pub between : List Told
  pub makes : MakesStep zones limits h step line now between
  pub others : Others between rest later
  pub printed : text ≡ line ++ rest
  pub found : full ≡ (now || later)

-- the lines of all steps, each as the history so far answers it, whether one of them found the
-- history full, and the history in the end
-- rules: replay-lines, replay-full
abbrev pub MakesAll : ZoneTable → Kept → List Told → List Step → List ℕ → Bool → List Told → Type 0
MakesAll zones limits h [] text full h' = (text ≡ []) × (full ≡ false) × (h' ≡ h)
MakesAll zones limits h (step ∷ steps) text full h' =
    MakesFirst zones limits h step text full
    (λ between rest later. MakesAll zones limits between steps rest later h')
