-- When a call of a history is made. Some calls have a moment of their own. Another call is made at
-- the last moment before it. A user acts before the clock's next instant begins, so a user's call
-- is made at the next moment after it.
use Rattle.std.specs.Prelude.{ℕ, ◌/◌, List, [], ◌∷◌, Option, Some, None}
use Rattle.cj_calls.specs.Rows.{Told}
use Rattle.cj_calls.specs.declared.caller.Role.{Role}
use Rattle.cj_calls.specs.declared.caller.Role.TheVariants.{User}
use Rattle.cj_calls.specs.declared.call.Call.{Call}
use Rattle.cj_calls.specs.declared.call.Call.TheVariants as Of
use Rattle.cj_calls.specs.declared.end.End.TheVariants.{Again}

abbrev pub or_else : {A : Type 0} → Option A → Option A → Option A
or_else None other = other
or_else (Some x) other = Some x

-- the moment in a call, in seconds
-- rule: call-moments
abbrev pub told_moment : Call → Option ℕ
told_moment (Of.CreateCron draft at) = Some at
told_moment (Of.CreateJob draft at) = Some at
told_moment (Of.EndJob key uid outcome at) = Some at
told_moment (Of.Tick millis) = Some (millis / 1000)
told_moment (Of.Claim plan) = Some plan.at
told_moment (Of.Finish (Again millis) reasons) = Some (millis / 1000)
told_moment call = None

-- the first moment in these calls
-- rule: call-moments
abbrev pub first_told : List Told → Option ℕ
first_told [] = None
first_told (e ∷ es) = or_else (told_moment e.call) (first_told es)

-- by the last moment before, and the next one after
abbrev pub moment_by : Role → Option ℕ → Option ℕ → Option ℕ
moment_by User last next = or_else next last
moment_by other last next = last

-- of an entry, after those before it, the newest first, and before those after it, the oldest first
-- rule: call-moments
abbrev pub moment : List Told → Told → List Told → Option ℕ
moment before e after = or_else (told_moment e.call)
    (moment_by e.caller.role (first_told before) (first_told after))
