-- The rows of a CronJob's spec: what a manifest without a fault leaves of each, and what that says once it is written.
use Rattle.std.proofs.Common.{◌≡◌, ℕ, List, [], Bool, true, false, Option, Some, None, option_map, Result, Ok, Err, refl, sym, ap, ◌∙◌, is_some, nat_le}
use Rattle.std.specs.Prelude.{⊤}
use Rattle.std.specs.Result.{result_err}
use Rattle.serde_json.specs.Data.{Data, string, unsigned, negative, float, Num}
use Rattle.serde_json.specs.Find.{as_str, as_number}
use Rattle.cj_base.specs.declared.cause.Cause.{Cause}
use Rattle.cj_base.specs.declared.cause.Cause.TheVariants as Why
use Rattle.cj_types.specs.declared.policy.Policy.{Policy}
use Rattle.cj_types.specs.declared.policy.Policy.TheVariants.{Allow, Forbid, Replace}
use Rattle.cj_types.specs.Limits.{last_deadline, last_history_limit}
use Rattle.cj_types.specs.Printed.{policy_name}
use Rattle.cj_schedule.specs.Reading as schedules
use Rattle.cj_zone.specs.declared.zone.Zone.{Zone}
use Rattle.cj_zone.specs.Zones.{zone_named}
use Rattle.cj_manifest.specs.Drafts.{given, value_or}
use Rattle.cj_manifest.specs.Values.{or_wrong_type, when, unless, and_then, text, up_to, required, optional, or_default}
use Rattle.cj_manifest.specs.Values as read
use Rattle.cj_manifest.specs.Table as fields
use Rattle.cj_manifest.proofs.CronParts.{number_data}
use Rattle.cj_manifest.proofs.KeyLemmas.{kept}

-- ---- the schedule

-- Where no cause is made of a fault, there was no fault.
no_cause_of : {A : Type 0} (f : A → Cause) (o : Option A) → option_map f o ≡ None → o ≡ None
no_cause_of f None h = refl
no_cause_of f (Some x) h = absurd (cc h)

-- For schedule_given: a text that is let through as a schedule has no fault as one.
schedule_text : (r : Result (List ℕ) Cause) (k : Result (List ℕ) Cause) → k
    ≡ and_then (λ s. unless (option_map Why.Schedule (schedules.fault_of s)) s) r → result_err k ≡ None
    → schedules.fault_of (value_or [] k) ≡ None
schedule_text (Err c) k is h = absurd (cc (is, h))
schedule_text (Ok s) k is h =
    let both = kept (option_map Why.Schedule (schedules.fault_of s)) s (ap result_err (sym is) ∙ h) in
    ap schedules.fault_of (ap (value_or []) is ∙ both.1) ∙ no_cause_of Why.Schedule _ both.0

-- The schedule that a manifest gives, where its row has no cause, has no fault as a schedule.
pub schedule_given : (o : Option Data) → result_err (required read.schedule o) ≡ None
    → schedules.fault_of (value_or [] (required read.schedule o)) ≡ None
schedule_given None h = absurd (cc h)
schedule_given (Some d) h = schedule_text (text d) _ refl h

-- The row of a written schedule without a fault gives that schedule.
pub schedule_row : (s : List ℕ) (o : Option Data) → o ≡ Some (string s) → schedules.fault_of s ≡ None
    → required read.schedule o ≡ Ok s
schedule_row s o h k = ap (required read.schedule) h ∙ ap (λ c. unless (option_map Why.Schedule c) s) k

-- ---- the zone

abbrev pub IsKnownZone : List Zone → Option (List ℕ) → Type 0
IsKnownZone zones None = ⊤
IsKnownZone zones (Some name) = is_some (zone_named name zones) ≡ true

-- For known_text: a name that is let through by the test of the table is that of a zone in it.
known_by : (zones : List Zone) (b : Bool) (name : List ℕ) → is_some (zone_named name zones) ≡ b
    → result_err (and_then (λ x. Ok (Some x)) (when b Why.Zone name)) ≡ None → is_some (zone_named name zones) ≡ true
known_by zones true name is h = is
known_by zones false name is h = absurd (cc h)

-- For zone_given: where there is a text and it is let through, it names a zone of the table.
known_text : (zones : List Zone) (o : Option (List ℕ))
    → result_err (and_then (λ x. Ok (Some x)) (and_then (λ s. when (is_some (zone_named s zones)) Why.Zone s)
    (or_wrong_type o))) ≡ None
    → IsKnownZone zones (given (and_then (λ x. Ok (Some x)) (or_wrong_type o)))
known_text zones None h = absurd (cc h)
known_text zones (Some name) h = known_by zones (is_some (zone_named name zones)) name refl h

-- The zone that a manifest gives, where its row has no cause, is one of the table, or none.
pub zone_given : (zones : List Zone) (o : Option Data) → result_err (optional (read.zone zones) o) ≡ None
    → IsKnownZone zones (given (optional text o))
zone_given zones None h = tt
zone_given zones (Some d) h = known_text zones (as_str d) h

-- The row of the zone has no cause where a zone of the table is written, or none.
pub zone_row : (zones : List Zone) (z : Option (List ℕ)) (o : Option Data) → o ≡ option_map string z
    → IsKnownZone zones z → result_err (optional (read.zone zones) o) ≡ None
zone_row zones None o h k = ap (λ x. result_err (optional (read.zone zones) x)) h
zone_row zones (Some name) o h k = ap (λ x. result_err (optional (read.zone zones) x)) h
    ∙ ap (λ b. result_err (and_then (λ x. Ok (Some x)) (when b Why.Zone name))) k

-- What is written of a zone says its name, and what is written of none says none.
pub zone_said : (z : Option (List ℕ)) (o : Option Data) → o ≡ option_map string z → given (optional text o) ≡ z
zone_said None o h = ap (λ x. given (optional text x)) h
zone_said (Some name) o h = ap (λ x. given (optional text x)) h

-- ---- policy and suspension

-- For policy_row: the written name of a policy reads as that policy.
named_policy : (p : Policy) → or_default Allow read.policy (Some (string (policy_name p))) ≡ Ok p
named_policy Allow = refl
named_policy Forbid = refl
named_policy Replace = refl

-- The row of the concurrency policy gives the policy whose name is written there.
pub policy_row : (p : Policy) (o : Option Data) → o ≡ Some (string (policy_name p))
    → or_default Allow read.policy o ≡ Ok p
policy_row p o h = ap (or_default Allow read.policy) h ∙ named_policy p

-- ---- numbers

abbrev pub IsWithin : ℕ → Option ℕ → Type 0
IsWithin most None = ⊤
IsWithin most (Some n) = nat_le n most ≡ true

-- For within_num: a number that the test of the limit lets through is within the limit.
within_by : (most n : ℕ) (b : Bool) → nat_le n most ≡ b
    → IsWithin most (given (and_then (λ x. Ok (Some x)) (when b Why.Range n)))
within_by most n true h = h
within_by most n false h = tt

-- For deadline_given: a number that is read as one up to a limit is within it, where there is one.
within_num : (most : ℕ) (n : Option Num) → IsWithin most
    (given (and_then (λ x. Ok (Some x)) (and_then (up_to most) (or_wrong_type n))))
within_num most None = tt
within_num most (Some (unsigned n)) = within_by most n (nat_le n most) refl
within_num most (Some (negative z)) = tt
within_num most (Some (float x)) = tt

-- The starting deadline that a manifest gives is within its limit, where there is one.
pub deadline_given : (o : Option Data) → IsWithin last_deadline (given (optional fields.seconds o))
deadline_given None = tt
deadline_given (Some d) = within_num last_deadline (as_number d)

-- The row of a written starting deadline within the limit, or of none, gives it back.
pub deadline_row : (n : Option ℕ) (o : Option Data) → o ≡ option_map number_data n → IsWithin last_deadline n
    → optional fields.seconds o ≡ Ok n
deadline_row None o h k = ap (optional fields.seconds) h
deadline_row (Some n) o h k = ap (optional fields.seconds) h
    ∙ ap (λ b. and_then (λ x. Ok (Some x)) (when b Why.Range n)) k

-- For limit_num: a number that is let through is within the limit, and else 0 stands for it.
limit_by : (most n : ℕ) (b : Bool) → nat_le 0 most ≡ true → nat_le n most ≡ b
    → nat_le (value_or 0 (when b Why.Range n)) most ≡ true
limit_by most n true z h = h
limit_by most n false z h = z

-- For limit_given: what is read as a number up to a limit, or 0 for it, is within the limit.
limit_num : (most : ℕ) (n : Option Num) → nat_le 0 most ≡ true
    → nat_le (value_or 0 (and_then (up_to most) (or_wrong_type n))) most ≡ true
limit_num most None z = z
limit_num most (Some (unsigned n)) z = limit_by most n (nat_le n most) z refl
limit_num most (Some (negative x)) z = z
limit_num most (Some (float x)) z = z

-- The history limit that a manifest gives, or else the default, is at most the greatest one.
pub limit_given : (n : ℕ) (o : Option Data) → nat_le n last_history_limit ≡ true
    → nat_le (value_or 0 (or_default n fields.limit o)) last_history_limit ≡ true
limit_given n None h = h
limit_given n (Some d) h = limit_num last_history_limit (as_number d) refl

-- The row of a written history limit, at most the greatest one, gives it whatever the default is.
pub limit_row : (usual n : ℕ) (o : Option Data) → o ≡ Some (number_data n) → nat_le n last_history_limit ≡ true
    → or_default usual fields.limit o ≡ Ok n
limit_row usual n o h k = ap (or_default usual fields.limit) h ∙ ap (λ b. when b Why.Range n) k
