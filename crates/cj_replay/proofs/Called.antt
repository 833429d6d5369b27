-- The call of a step, of the one Job that it may end.
use Rattle.std.proofs.Common.{◌≡◌, subst}
use Rattle.std.specs.Prelude.{Option}
use Rattle.cj_types.specs.Keys.{Place}
use Rattle.cj_types.specs.declared.job.Job.{Job}
use Rattle.cj_zone.specs.declared.table.ZoneTable.{ZoneTable}
use Rattle.cj_calls.specs.declared.call.Call.{Call}
use Rattle.cj_state.specs.declared.phases.sync.InFlight.{InFlight}
use Rattle.cj_script.specs.declared.operations.operation.Operation.{Operation}
use Rattle.cj_script.specs.declared.operations.operation.Operation.TheVariants.{Calls, Claims, Closes, Ends}
use Rattle.cj_script.specs.operations.Calls.{IsCallOf, IsEnd}
use Rattle.cj_replay.specs.Runs.{job_for}

-- For call_after: a call that is right where each key has the Job of the operation's own is right where the Jobs stand.
pub called : (zones : ZoneTable) (sync : Option InFlight) (job_at : Place → Option Job) (job : Option Job)
    (operation : Operation) (call : Call)
    → job ≡ job_for job_at operation → IsCallOf zones sync (λ _. job) operation call
    → IsCallOf zones sync job_at operation call
called zones sync job_at job (Calls said) call e is = is
called zones sync job_at job (Ends key outcome at) call e is
    = subst (λ (j : Option Job). IsEnd j key outcome at call) e is
called zones sync job_at job (Claims at) call e is = is
called zones sync job_at job (Closes end) call e is = is
