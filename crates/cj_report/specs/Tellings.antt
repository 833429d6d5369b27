-- What is known of a history once it was read from its oldest entry on: the key that each worker
-- took last, and the reasons of each key.
use Rattle.std.specs.Prelude.{◌≡◌, ℕ, ◌==◌, Bool, false, ◌&&◌, ◌||◌, List, [], filter, if◌then◌else◌, Option, None, unwrap_or, Result, Ok, Err}
use Rattle.std.specs.Ordering.{nat_cmp}
use Rattle.std.specs.BTreeMap as tree
use Rattle.std.specs.FinMap as map
use Rattle.cj_base.specs.declared.refusal.Refusal.{Refusal}
use Rattle.cj_types.specs.declared.policy.Reason.{Reason}
use Rattle.cj_types.specs.declared.policy.Reason.TheVariants.{FailedCreate, JobAlreadyActive, TooManyMissedTimes, UnknownTimeZone}
use Rattle.cj_types.specs.Keys.{Place, place_cmp}
use Rattle.cj_calls.specs.declared.call.Call.{Call}
use Rattle.cj_calls.specs.declared.reply.Reply.{Reply}
use Rattle.cj_calls.specs.Rows.{Told}
use Rattle.cj_report.specs.Reasons as said
use Rattle.cj_report.specs.declared.tellings.ReasonSet.{ReasonSet}
use Rattle.cj_report.specs.declared.tellings.Tellings.{Tellings}

-- the key of the worker with this number
abbrev pub key_of : tree.BTreeMap ℕ Place → ℕ → Option Place
key_of keys number = tree.get nat_cmp keys number

-- the reason is one of the set
abbrev pub has : Reason → ReasonSet → Bool
has FailedCreate set = set.failed_create
has JobAlreadyActive set = set.job_already_active
has TooManyMissedTimes set = set.too_many_missed_times
has UnknownTimeZone set = set.unknown_time_zone

abbrev pub no_reason : ReasonSet
no_reason = record { failed_create = false; job_already_active = false; too_many_missed_times = false; unknown_time_zone = false }

-- the reasons of the key
abbrev pub told : map.FinMap place_cmp ReasonSet → Place → ReasonSet
told reasons key = unwrap_or (map.get reasons key) no_reason

-- ---- an entry more

-- the reasons in a call, by its answer: those of an accepted Finish
abbrev pub reasons_told : Call → Result Reply Refusal → List Reason
reasons_told call (Ok reply) = said.reasons_in call
reasons_told call (Err refusal) = []

-- the set has the reasons of the list too
abbrev pub Adds : List Reason → ReasonSet → ReasonSet → Type 0
Adds reasons before after = (reason : Reason)
    → has reason after ≡ (has reason before || said.is_told reason reasons)

-- the worker has the key, if there is one, and the others keep theirs
abbrev pub Takes : ℕ → Option Place → tree.BTreeMap ℕ Place → tree.BTreeMap ℕ Place → Type 0
Takes number key before after = (other : ℕ)
    → key_of after other ≡ said.or_before (if number == other then key else None)
    (key_of before other)

-- the reasons are added to the key, if there is one, and to no other
abbrev pub Tells : Option Place → List Reason → map.FinMap place_cmp ReasonSet
    → map.FinMap place_cmp ReasonSet → Type 0
Tells key reasons before after = (other : Place) (reason : Reason)
    → has reason (told after other) ≡ ((said.is_told reason reasons && said.is_key other key)
    || has reason (told before other))

-- ---- the whole

-- what is known is what the history says: of each worker the key that it took last, and of each key
-- whether a reason was told
pub record Knows (t : Tellings) (h : List Told) : Type 0 where
  pub keys : (number : ℕ) → key_of t.keys number ≡ said.held number h
  pub reasons : (key : Place) (reason : Reason)
      → has reason (told t.reasons key) ≡ said.has_reason key reason h

-- those of the reasons that are known of the key
abbrev pub known_of : Place → Tellings → List Reason → List Reason
known_of key t reasons = filter (λ reason. has reason (told t.reasons key)) reasons
