-- At most one Job for a scheduled time, and under Forbid and Replace none beside another:
-- Kubernetes CronJob documentation, "Concurrency policy" and "CronJob limitations", where these are
-- wishes ("approximately once per execution time").
use Rattle.std.specs.Prelude.{◌≡◌, ℕ, ◌≤◌, ◌==◌, Bool, true, false, cond, List, [], ◌∷◌, length, Option, Some, None, Result, Ok, Err}
use Rattle.std.specs.List.{AllByRecursion}
use Rattle.std.specs.FinMap as map
use Rattle.cj_base.specs.declared.refusal.Refusal.{Refusal}
use Rattle.cj_types.specs.Keys.{Place, place_cmp}
use Rattle.cj_types.specs.Uids.{last_uid}
use Rattle.cj_types.specs.declared.policy.Policy.{Policy}
use Rattle.cj_types.specs.declared.cron.CronJob.{CronJob}
use Rattle.cj_types.specs.declared.job.Job.{Job}
use Rattle.cj_store.specs.Content.{Content}
use Rattle.cj_decide.specs.Decision.{Planned}
use Rattle.cj_calls.specs.Rows.{Told}
use Rattle.cj_calls.specs.declared.call.Call.{Call}
use Rattle.cj_calls.specs.declared.call.Call.TheVariants as Of
use Rattle.cj_calls.specs.declared.reply.Reply.{Reply}
use Rattle.cj_calls.specs.declared.reply.Reply.TheVariants as Say
use Rattle.cj_state.specs.Legal.{state_of, IsLegal, ArePlanned}
use Rattle.cj_decide.specs.laws.Fits.{runs, is_strict}

-- what an accepted claim recorded: for whom, which time, and the policy that stood
pub record Claimed : Type 0 where
  pub owner : ℕ
  pub time : ℕ
  pub policy : Policy

abbrev pub claimed_under : ℕ → ℕ → Option CronJob → Option Claimed
claimed_under u t None = None
claimed_under u t (Some cron) = Some (record { owner = u; time = t; policy = cron.spec.policy })

abbrev pub claimed_of : Content → ℕ → Option CronJob → Option Claimed
claimed_of s t None = None
claimed_of s t (Some cron) = claimed_under cron.meta.uid t (map.get s.crons cron.key)

-- after an answer to a claim of the plan, where another was claimed before
abbrev pub claim_answered : Content → Planned → Result Reply Refusal → Option Claimed
    → Option Claimed
claim_answered s p (Ok (Say.Claimed (Some (t, v)))) before = claimed_of s t p.cron
claim_answered s p (Ok reply) before = None
claim_answered s p (Err e) before = before

abbrev pub claim_after : Content → Call → Result Reply Refusal → Option Claimed → Option Claimed
claim_after s (Of.Claim p) answer before = claim_answered s p answer before
claim_after s call answer before = before

-- the caller's last accepted claim, by its number: only a worker's entries change it
-- (legal/Callers)
-- rule: once
abbrev pub claim_of : ℕ → List Told → ℕ → Option Claimed
claim_of window [] w = None
claim_of window (e ∷ h) w = cond (w == e.caller.number)
    (claim_after (state_of window h).store e.call e.answer (claim_of window h w))
    (claim_of window h w)

abbrev pub is_ok : Result Reply Refusal → Bool
is_ok (Ok reply) = true
is_ok (Err e) = false

-- an accepted making
abbrev pub makes_with : Call → Result Reply Refusal → Bool
makes_with Of.MakeNext answer = is_ok answer
makes_with call answer = false

abbrev pub is_making : Told → Bool
is_making e = makes_with e.call e.answer

abbrev pub with_made : Bool → Option Claimed → List Claimed → List Claimed
with_made true (Some m) ms = m ∷ ms
with_made _ _ ms = ms

-- what was claimed for each Job that was made
-- rule: once
abbrev pub makes : ℕ → List Told → List Claimed
makes window [] = []
makes window (e ∷ h) = with_made (is_making e) (claim_of window h e.caller.number) (makes window h)

abbrev pub IsNew : Claimed → List Claimed → Type 0
IsNew m ms = AllByRecursion (λ x. x.owner ≡ m.owner → x.time ≡ m.time → ⊥) ms

-- an accepted making rests on a claim, of an owner and a time that no earlier one has
-- rule: once
abbrev pub Once : ℕ → List Told → Type 0
Once window [] = Unit {0}
Once window (e ∷ h) = (is_making e ≡ true
    → (m : Claimed) × (claim_of window h e.caller.number ≡ Some m) × IsNew m (makes window h))
    × Once window h

-- rule: alone
abbrev pub NoneRuns : ℕ → map.FinMap place_cmp Job → Type 0
NoneRuns u jobs = (q : Place) (j : Job) → map.get jobs q ≡ Some j → runs u j ≡ false

-- what was claimed under Forbid or Replace is made where no Job of its owner is unfinished
-- rule: alone
abbrev pub Alone : ℕ → List Told → Type 0
Alone window [] = Unit {0}
Alone window (e ∷ h) =
    (is_making e ≡ true → (m : Claimed) → claim_of window h e.caller.number ≡ Some m
    → is_strict m.policy ≡ true → NoneRuns m.owner (state_of window h).store.jobs)
    × Alone window h

-- whoever calls whatever in any order, as often as there are uids
abbrev pub OnceAndAlone : Type 0
OnceAndAlone = (window : ℕ) (h : List Told) → length h ≤ last_uid → IsLegal window h → ArePlanned h
    → Once window h × Alone window h
