-- How a sync ends: well, or to be tried again, which `retry` says; and why no Job was started,
-- where `reasons` says it.
use Rattle.std.specs.Prelude.{ℕ, ◌*◌, List, [], ◌∷◌, ◌++◌, codes, bytes_eq, Bool, true, false, if◌then◌else◌, Option, Some, None, option_map, option_and_then}
use Rattle.serde_json.specs.Data.{Data, Items, no_items, item}
use Rattle.serde_json.specs.Find.{as_array, as_bool, as_str}
use Rattle.cj_types.specs.declared.policy.Reason.{Reason}
use Rattle.cj_types.specs.declared.policy.Reason.TheVariants as Why
use Rattle.cj_calls.specs.declared.call.Call.TheVariants as Of
use Rattle.cj_calls.specs.declared.end.End.{End}
use Rattle.cj_calls.specs.declared.end.End.TheVariants.{Again, Well}
use Rattle.cj_manifest.specs.Members.{present}
use Rattle.cj_script.specs.declared.operations.operation.Operation.{Operation}
use Rattle.cj_script.specs.declared.operations.operation.Operation.TheVariants.{Calls, Closes}
use Rattle.cj_script.specs.operations.Operations.{moment_in}

abbrev pub reason_named : List ℕ → Option Reason
reason_named word =
    if bytes_eq word (codes "UnknownTimeZone") then Some Why.UnknownTimeZone
    else (if bytes_eq word (codes "TooManyMissedTimes") then Some Why.TooManyMissedTimes
    else (if bytes_eq word (codes "JobAlreadyActive") then Some Why.JobAlreadyActive
    else (if bytes_eq word (codes "FailedCreate") then Some Why.FailedCreate
    else None)))

abbrev pub reason_in : Data → Option Reason
reason_in d = option_and_then reason_named (as_str d)

-- the reasons with those of the items, one after another
abbrev pub with_reasons : List Reason → Items → Option (List Reason)
with_reasons reasons no_items = Some reasons
with_reasons reasons (item d ds) = option_and_then
    (λ reason. with_reasons (reasons ++ reason ∷ []) ds) (reason_in d)

-- false where it is absent
abbrev pub retry_in : Option Data → Option Bool
retry_in None = Some false
retry_in (Some d) = as_bool d

-- a sync that is tried again needs the time
abbrev pub end_of : Bool → Data → Option End
end_of true d = option_map (λ at. Again (at * 1000)) (moment_in d)
end_of false d = Some Well

abbrev pub end_in : Data → Option End
end_in d = option_and_then (λ again. end_of again d) (retry_in (present (codes "retry") d))

abbrev pub finished : End → Data → Option Operation
finished end list =
    option_map (λ reasons. Calls (Of.Finish end reasons))
    (option_and_then (with_reasons []) (as_array list))

-- the reasons that are given, or else those of the plan
abbrev pub finish_with : End → Option Data → Option Operation
finish_with end None = Some (Closes end)
finish_with end (Some list) = finished end list

-- rule: step-form
abbrev pub finish : Data → Option Operation
finish d = option_and_then (λ end. finish_with end (present (codes "reasons") d)) (end_in d)
