-- What a step does whose verb takes a manifest, `object`: that must be there, and `at` where
-- something is created.
use Rattle.std.specs.Prelude.{List, codes, Result, Ok}
use Rattle.serde_json.specs.Data.{Data}
use Rattle.cj_zone.specs.declared.zone.Zone.{Zone}
use Rattle.cj_types.specs.declared.cron.CronJobDraft.{CronJobDraft}
use Rattle.cj_types.specs.declared.job.JobDraft.{JobDraft}
use Rattle.cj_calls.specs.declared.call.Call.{Call}
use Rattle.cj_calls.specs.declared.call.Call.TheVariants as Of
use Rattle.cj_manifest.specs.Members.{present}
use Rattle.cj_scenario.specs.declared.fault.SceneFault.{SceneFault}
use Rattle.cj_script.specs.operations.Operations.{moment_in}
use Rattle.cj_script.specs.declared.operations.operation.Operation.{Operation}
use Rattle.cj_script.specs.declared.operations.operation.Operation.TheVariants.{Calls}
use Rattle.cj_script.specs.declared.operations.verb.Write.{Write}
use Rattle.cj_script.specs.declared.operations.verb.Write.TheVariants as Kind
use Rattle.cj_script.specs.Drafts.{cron_said, job_said, needed, then}

abbrev pub object_in : Data → Result Data SceneFault
object_in d = needed (present (codes "object") d)

abbrev pub cron_operation : List Zone → (CronJobDraft → Call) → Data → Result Operation SceneFault
cron_operation zones call d = then (object_in d)
    (λ m. then (cron_said zones m) (λ draft. Ok (Calls (call draft))))

abbrev pub job_operation : (JobDraft → Call) → Data → Result Operation SceneFault
job_operation call d = then (object_in d)
    (λ m. then (job_said m) (λ draft. Ok (Calls (call draft))))

abbrev pub create_cron : List Zone → Data → Result Operation SceneFault
create_cron zones d = then (needed (moment_in d))
    (λ at. cron_operation zones (λ draft. Of.CreateCron draft at) d)

abbrev pub update_cron : List Zone → Data → Result Operation SceneFault
update_cron zones d = cron_operation zones (λ draft. Of.UpdateCron draft) d

abbrev pub create_job : Data → Result Operation SceneFault
create_job d = then (needed (moment_in d)) (λ at. job_operation (λ draft. Of.CreateJob draft at) d)

abbrev pub update_job : Data → Result Operation SceneFault
update_job d = job_operation (λ draft. Of.UpdateJob draft) d

-- rule: step-form
abbrev pub write_operation : List Zone → Write → Data → Result Operation SceneFault
write_operation zones Kind.CreateCron d = create_cron zones d
write_operation zones Kind.UpdateCron d = update_cron zones d
write_operation zones Kind.CreateJob d = create_job d
write_operation zones Kind.UpdateJob d = update_job d
