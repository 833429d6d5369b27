-- What a step does whose verb takes no manifest.
use Rattle.std.specs.Prelude.{Option, Some}
use Rattle.serde_json.specs.Data.{Data}
use Rattle.cj_calls.specs.declared.call.Call.TheVariants as Of
use Rattle.cj_script.specs.declared.operations.operation.Operation.{Operation}
use Rattle.cj_script.specs.declared.operations.operation.Operation.TheVariants.{Calls}
use Rattle.cj_script.specs.declared.operations.verb.Plain.{Plain}
use Rattle.cj_script.specs.declared.operations.verb.Plain.TheVariants as Kind
use Rattle.cj_script.specs.operations.Operations as said
use Rattle.cj_script.specs.operations.Finishes.{finish}

-- rule: step-form
abbrev pub plain_operation : Plain → Data → Option Operation
plain_operation Kind.DeleteCron d = said.delete_cron d
plain_operation Kind.DeleteJob d = said.delete_job d
plain_operation Kind.EndJob d = said.end_job d
plain_operation Kind.Watch d = said.watch d
plain_operation Kind.Add d = said.add d
plain_operation Kind.Tick d = said.tick d
plain_operation Kind.Shut d = Some (Calls Of.Shut)
plain_operation Kind.Feed d = said.feed d
plain_operation Kind.Take d = Some (Calls Of.Take)
plain_operation Kind.SeeCron d = Some (Calls Of.SeeCron)
plain_operation Kind.SeeJobs d = Some (Calls Of.SeeJobs)
plain_operation Kind.SeeActive d = Some (Calls Of.SeeActive)
plain_operation Kind.Claim d = said.claim d
plain_operation Kind.Drops d = Some (Calls Of.DropNext)
plain_operation Kind.Make d = Some (Calls Of.MakeNext)
plain_operation Kind.SetStatus d = Some (Calls Of.SetStatus)
plain_operation Kind.Finish d = finish d
