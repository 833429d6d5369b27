-- Which Jobs are due, and the calls that end them.
use Rattle.std.specs.Prelude.{ℕ, ◌+◌, Bool, ◌&&◌, nat_lt, nat_le, List, map, filter}
use Rattle.cj_types.specs.declared.policy.Outcome.{Outcome}
use Rattle.cj_types.specs.declared.policy.Outcome.TheVariants as To
use Rattle.cj_calls.specs.declared.call.Call.{Call}
use Rattle.cj_calls.specs.declared.call.Call.TheVariants as Of
use Rattle.cj_runner.specs.declared.running.Ending.{Ending}
use Rattle.cj_runner.specs.declared.running.Ending.TheVariants.{Complete, Failed}
use Rattle.cj_runner.specs.declared.running.Running.{Running}

-- the Job was made before now, and has run for its seconds
-- rule: runner
abbrev pub is_due : ℕ → Running → Bool
is_due now r = nat_lt r.made now && nat_le (r.made + r.seconds) now

-- a Job that is complete is so from now on
-- rule: runner
abbrev pub outcome_at : ℕ → Ending → Outcome
outcome_at now Complete = To.Complete now
outcome_at now Failed = To.Failed

-- the Job with this uid ends now
-- rule: runner
abbrev pub end_call : ℕ → Running → Call
end_call now r = Of.EndJob r.key r.uid (outcome_at now r.outcome) now

-- the ends of those that are due, in the list's order
-- rule: runner
abbrev pub due_ends : ℕ → List Running → List Call
due_ends now rs = map (end_call now) (filter (is_due now) rs)
