-- What a step does whose verb takes no manifest, by the members that it needs; none where one of
-- these is missing or has the wrong form. Members that are null are missing, and others aren't
-- looked at.
use Rattle.std.specs.Prelude.{ℕ, ◌*◌, ◌==◌, ◌&&◌, nat_le, length, Bool, List, codes, bytes_eq, if◌then◌else◌, Option, Some, None, option_map, option_and_then}
use Rattle.std.specs.List.{before_first, after_first, position_or_len}
use Rattle.std.specs.Result.{result_ok}
use Rattle.serde_json.specs.Data.{Data}
use Rattle.serde_json.specs.Find.{as_number, as_str, as_u64}
use Rattle.cj_types.specs.declared.policy.Outcome.{Outcome}
use Rattle.cj_types.specs.declared.policy.Outcome.TheVariants.{Complete, Failed}
use Rattle.cj_types.specs.Keys.{Place, new_key}
use Rattle.cj_types.specs.Names.{longest}
use Rattle.cj_calls.specs.declared.call.Call.TheVariants as Of
use Rattle.cj_manifest.specs.Members.{present}
use Rattle.cj_script.specs.declared.operations.operation.Operation.{Operation}
use Rattle.cj_script.specs.declared.operations.operation.Operation.TheVariants.{Calls, Claims, Ends}
use Rattle.cj_script.specs.operations.Instants.{time_in}

-- ---- members

-- the time of the step
abbrev pub moment_in : Data → Option ℕ
moment_in d = time_in (present (codes "at") d)

abbrev pub number_in : Option Data → Option ℕ
number_in o = option_and_then as_u64 (option_and_then as_number o)

-- how many events at most: 1 to 500
-- rule: step-form
abbrev pub max_of : ℕ → Option ℕ
max_of n = if nat_le 1 n && nat_le n 500 then Some n else None

abbrev pub max_in : Data → Option ℕ
max_in d = option_and_then max_of (number_in (present (codes "max") d))

abbrev pub is_slash : ℕ → Bool
is_slash b = b == 47

abbrev pub key_named : List ℕ → List ℕ → Option Place
key_named namespace name = result_ok (new_key longest namespace name)

-- NAMESPACE/NAME, split at the first `/`
-- rule: step-form
unfoldable pub key_of : List ℕ → Option Place
key_of text =
    if position_or_len is_slash text == length text then None
    else key_named (before_first is_slash text) (after_first is_slash text)

abbrev pub key_in : Data → Option Place
key_in d = option_and_then key_of (option_and_then as_str (present (codes "key") d))

-- how a Job ends: a Complete one does so at the step's time
abbrev pub outcome_named : ℕ → List ℕ → Option Outcome
outcome_named at word =
    if bytes_eq word (codes "Complete") then Some (Complete at)
    else (if bytes_eq word (codes "Failed") then Some Failed
    else None)

abbrev pub outcome_in : ℕ → Data → Option Outcome
outcome_in at d = option_and_then (outcome_named at)
    (option_and_then as_str (present (codes "outcome") d))

-- ---- operations

abbrev pub delete_cron : Data → Option Operation
delete_cron d = option_map (λ key. Calls (Of.DeleteCron key)) (key_in d)

abbrev pub delete_job : Data → Option Operation
delete_job d = option_map (λ key. Calls (Of.DeleteJob key)) (key_in d)

abbrev pub add : Data → Option Operation
add d = option_map (λ key. Calls (Of.Add key)) (key_in d)

abbrev pub end_job : Data → Option Operation
end_job d =
    option_and_then (λ at.
    option_and_then (λ outcome.
    option_map (λ key. Ends key outcome at)
    (key_in d)) (outcome_in at d)) (moment_in d)

abbrev pub watch : Data → Option Operation
watch d =
    option_and_then (λ version.
    option_map (λ max. Calls (Of.Watch version max))
    (max_in d)) (number_in (present (codes "version") d))

abbrev pub feed : Data → Option Operation
feed d = option_map (λ max. Calls (Of.Feed max)) (max_in d)

-- the queue's instants are milliseconds
abbrev pub tick : Data → Option Operation
tick d = option_map (λ at. Calls (Of.Tick (at * 1000))) (moment_in d)

abbrev pub claim : Data → Option Operation
claim d = option_map (λ at. Claims at) (moment_in d)
