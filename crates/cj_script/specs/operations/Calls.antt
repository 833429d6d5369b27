-- The call of an operation. Some of it is known only when the operation's turn comes.
use Rattle.std.specs.Prelude.{◌≡◌, ℕ, Option, Some, None}
use Rattle.cj_types.specs.Keys.{Place}
use Rattle.cj_types.specs.declared.job.Job.{Job}
use Rattle.cj_types.specs.declared.policy.Outcome.{Outcome}
use Rattle.cj_zone.specs.declared.table.ZoneTable.{ZoneTable}
use Rattle.cj_decide.specs.Decision.{Planned}
use Rattle.cj_calls.specs.declared.call.Call.{Call}
use Rattle.cj_calls.specs.declared.call.Call.TheVariants as Of
use Rattle.cj_state.specs.declared.phases.sync.InFlight.{InFlight}
use Rattle.cj_script.specs.declared.operations.operation.Operation.{Operation}
use Rattle.cj_script.specs.declared.operations.operation.Operation.TheVariants.{Calls, Claims, Closes, Ends}
use Rattle.cj_script.specs.operations.Plans.{Inputs, IsPlanFor, inputs_of, reasons_of}

-- the uid of the Job that is there; any uid where there is none
abbrev pub IsUidOf : Option Job → ℕ → Type 0
IsUidOf None uid = Unit {0}
IsUidOf (Some job) uid = uid ≡ job.meta.uid

-- the end of that Job
-- rule: end-step
pub record IsEnd (job : Option Job) (key : Place) (outcome : Outcome) (at : ℕ) (call : Call)
    : Type 0 where
  pub uid : ℕ
  pub whose : IsUidOf job uid
  pub is : call ≡ Of.EndJob key uid outcome at

-- the claim of the plan of these readings
-- rule: claim-step
pub record IsClaim (zones : ZoneTable) (inputs : Inputs) (at : ℕ) (call : Call) : Type 0 where
  pub plan : Planned
  pub is_for : IsPlanFor zones inputs at plan
  pub is : call ≡ Of.Claim plan

-- the call of an operation of a caller whose sync, if it has one, has come so far, where these Jobs
-- stand
-- rules: claim-step, end-step, finish-step
abbrev pub IsCallOf : ZoneTable → Option InFlight → (Place → Option Job) → Operation → Call → Type 0
IsCallOf zones sync job_at (Calls said) call = call ≡ said
IsCallOf zones sync job_at (Ends key outcome at) call = IsEnd (job_at key) key outcome at call
IsCallOf zones sync job_at (Claims at) call = IsClaim zones (inputs_of sync) at call
IsCallOf zones sync job_at (Closes end) call = call ≡ Of.Finish end (reasons_of sync)

-- the call of an operation of a caller that has no sync, where no Job is known
-- rules: claim-step, end-step, finish-step
abbrev pub IsUnseenCall : ZoneTable → Operation → Call → Type 0
IsUnseenCall zones operation call = IsCallOf zones None (λ _. None) operation call
