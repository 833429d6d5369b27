-- What a plan asks for after its claim.
use Rattle.std.specs.Prelude.{◌≡◌, List, [], ◌∷◌, ◌++◌, map, Bool, if◌then◌else◌}
use Rattle.cj_calls.specs.declared.call.Call.{Call}
use Rattle.cj_calls.specs.declared.call.Call.TheVariants as Of
use Rattle.cj_decide.specs.Decision.{Planned}
use Rattle.cj_decide.specs.declared.steps.Steps.{Steps}
use Rattle.cj_state.specs.phases.Steps.{Step, drops, makes, sets, all_steps}
use Rattle.cj_status.specs.declared.refs.JobRef.{JobRef}
use Rattle.cj_types.specs.declared.policy.Reason.TheVariants.{FailedCreate}
use Rattle.cj_worker.specs.declared.outline.Next.{Next}
use Rattle.cj_worker.specs.declared.outline.Next.TheVariants as Kind
use Rattle.cj_worker.specs.declared.outline.Outline.{Outline}

-- the call by which a step is made
-- rule: sync-calls
abbrev pub call_of : Step → Call
call_of (drops r) = Of.DropNext
call_of (makes d) = Of.MakeNext
call_of (sets s) = Of.SetStatus

abbrev pub next_of : Step → Next
next_of (drops r) = Kind.Drop
next_of (makes d) = Kind.Make
next_of (sets s) = Kind.Status

abbrev pub call_by : Next → Call
call_by Kind.Drop = Of.DropNext
call_by Kind.Make = Of.MakeNext
call_by Kind.Status = Of.SetStatus

-- the calls of a plan's steps, in order
-- rule: sync-calls
abbrev pub step_calls : Steps → List Call
step_calls s = map call_of (all_steps s)

-- one drop for each Job
abbrev pub drops_of : List JobRef → List Next
drops_of jobs = map (λ _. Kind.Drop) jobs

-- a step, where it is part of the plan
abbrev pub one_if : Bool → Next → List Next
one_if is_there next = if is_there then next ∷ [] else []

-- the outline of a plan
pub record IsOutline (p : Planned) (o : Outline) : Type 0 where
  pub steps : map call_by o.steps.items ≡ step_calls p.steps
  pub done : o.done ≡ p.steps.reasons
  pub retry : o.retry ≡ p.steps.reasons
  pub failed : o.failed ≡ p.steps.reasons ++ FailedCreate ∷ []
