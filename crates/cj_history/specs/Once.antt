-- At most one Job for a scheduled time, and under Forbid and Replace none beside another, by
-- looking back alone: Kubernetes CronJob documentation, "Concurrency policy" and "CronJob
-- limitations".
use Rattle.std.specs.Prelude.{◌≡◌, ℕ, ◌≤◌, ◌==◌, true, false, if◌then◌else◌, List, [], ◌∷◌, length, Option, Some, None, Result, Ok, Err}
use Rattle.cj_base.specs.declared.refusal.Refusal.{Refusal}
use Rattle.cj_types.specs.Keys.{Place}
use Rattle.cj_types.specs.Uids.{last_uid}
use Rattle.cj_types.specs.declared.cron.CronJob.{CronJob}
use Rattle.cj_types.specs.declared.job.Job.{Job}
use Rattle.cj_types.specs.declared.event.Event.{Event}
use Rattle.cj_decide.specs.Decision.{Planned}
use Rattle.cj_calls.specs.Rows.{Told}
use Rattle.cj_calls.specs.declared.call.Call.{Call}
use Rattle.cj_calls.specs.declared.call.Call.TheVariants as Of
use Rattle.cj_calls.specs.declared.reply.Reply.{Reply}
use Rattle.cj_calls.specs.declared.reply.Reply.TheVariants as Say
use Rattle.cj_state.specs.Legal.{ArePlanned}
use Rattle.cj_decide.specs.laws.Fits.{runs, is_strict}
use Rattle.cj_world_laws.specs.once.Once.{Claimed, claimed_under, is_making, with_made, IsNew}
use Rattle.cj_history.specs.store.Written.{current_cron, current_job}
use Rattle.cj_history.specs.store.Writes.{writes}
use Rattle.cj_history.specs.Legal.{IsLawful}

-- what a claim records after these writes: its CronJob, its time, and the policy of the CronJob
-- that is current
abbrev pub claimed : List Event → ℕ → Option CronJob → Option Claimed
claimed ws t None = None
claimed ws t (Some cron) = claimed_under cron.meta.uid t (current_cron ws cron.key)

abbrev pub claim_answered : List Event → Planned → Result Reply Refusal → Option Claimed
    → Option Claimed
claim_answered ws p (Ok (Say.Claimed (Some (t, v)))) before = claimed ws t p.cron
claim_answered ws p (Ok reply) before = None
claim_answered ws p (Err e) before = before

abbrev pub claim_after : List Event → Call → Result Reply Refusal → Option Claimed → Option Claimed
claim_after ws (Of.Claim p) answer before = claim_answered ws p answer before
claim_after ws call answer before = before

-- the caller's last accepted claim
abbrev pub claim_of : List Told → ℕ → Option Claimed
claim_of [] w = None
claim_of (e ∷ h) w = if w == e.caller.number then claim_after (writes h) e.call e.answer
    (claim_of h w) else claim_of h w

-- what was claimed for each Job that was made
abbrev pub makes : List Told → List Claimed
makes [] = []
makes (e ∷ h) = with_made (is_making e) (claim_of h e.caller.number) (makes h)

-- an accepted making rests on a claim, of a CronJob and a time that no earlier one has
-- rule: looking-back
abbrev pub Once : List Told → Type 0
Once [] = Unit {0}
Once (e ∷ h) = (is_making e ≡ true
    → (m : Claimed) × (claim_of h e.caller.number ≡ Some m) × IsNew m (makes h)) × Once h

-- no Job of the CronJob with this uid is unfinished
abbrev pub NoneRuns : ℕ → List Event → Type 0
NoneRuns u ws = (q : Place) (j : Job) → current_job ws q ≡ Some j → runs u j ≡ false

-- what was claimed under Forbid or Replace is made where no Job of its CronJob is unfinished
-- rule: looking-back
abbrev pub Alone : List Told → Type 0
Alone [] = Unit {0}
Alone (e ∷ h) =
    (is_making e ≡ true → (m : Claimed) → claim_of h e.caller.number ≡ Some m
    → is_strict m.policy ≡ true → NoneRuns m.owner (writes h))
    × Alone h

-- whoever calls whatever in any order, as often as there are uids
-- rule: looking-back
abbrev pub OnceAndAlone : Type 0
OnceAndAlone = (window : ℕ) (h : List Told) → length h ≤ last_uid → IsLawful window h → ArePlanned h
    → Once h × Alone h
