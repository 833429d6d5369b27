-- A worker's sync by its own accepted calls, the newest entry first.
use Rattle.std.specs.Prelude.{◌≡◌, ℕ, ◌==◌, List, [], ◌∷◌, Option, Some, None, Result, Ok, Err, if◌then◌else◌}
use Rattle.std.specs.FinMap as map
use Rattle.cj_base.specs.declared.refusal.Refusal.{Refusal}
use Rattle.cj_types.specs.declared.job.Job.{Job}
use Rattle.cj_calls.specs.declared.call.Call.{Call}
use Rattle.cj_calls.specs.declared.call.Call.TheVariants as Of
use Rattle.cj_calls.specs.declared.reply.Reply.{Reply}
use Rattle.cj_calls.specs.declared.reply.Reply.TheVariants as Is
use Rattle.cj_calls.specs.Rows.{Told}
use Rattle.cj_state.specs.declared.phases.sync.Phase.{Phase}
use Rattle.cj_state.specs.declared.phases.sync.Phase.TheVariants.{Held, Seen, Listed, Checked, Works}
use Rattle.cj_state.specs.declared.phases.sync.InFlight.{InFlight}
use Rattle.cj_state.specs.WorkerCalls.{works, further, seen_version}
use Rattle.cj_state.specs.Legal.{IsLegal, state_of}

abbrev pub at_phase : Option InFlight → Phase → Option InFlight
at_phase None p = None
at_phase (Some sync) p = Some (record { key = sync.key; phase = p })

abbrev pub listing : Phase → List Job → Phase
listing (Seen c) js = Listed c js
listing p js = p

abbrev pub checking : Phase → List (Option Job) → Phase
checking (Listed c js) ks = Checked c js ks
checking p ks = p

abbrev pub going : Phase → Phase
going (Works work) = further work
going p = p

-- in the same sync, with the phase after this one
abbrev pub on : (Phase → Phase) → Option InFlight → Option InFlight
on f None = None
on f (Some sync) = Some (record { key = sync.key; phase = f sync.phase })

-- what an accepted call leaves of its caller's sync
abbrev pub accepted : Option InFlight → Call → Reply → Option InFlight
accepted o Of.Take (Is.Key k) = Some (record { key = k; phase = Held })
accepted o Of.SeeCron (Is.SeenCron c) = at_phase o (Seen c)
accepted o Of.SeeJobs (Is.SeenJobs js) = on (λ p. listing p js) o
accepted o Of.SeeActive (Is.SeenActive ks) = on (λ p. checking p ks) o
accepted o (Of.Claim plan) (Is.Claimed None) = at_phase o (works plan (seen_version plan.cron) 0)
accepted o (Of.Claim plan) (Is.Claimed (Some c)) = at_phase o (works plan c.1 0)
accepted o Of.DropNext (Is.Dropped d) = on going o
accepted o Of.MakeNext (Is.Job j) = on going o
accepted o Of.SetStatus (Is.Version v) = on going o
accepted o (Of.Finish end rs) Is.Done = None
accepted o _ _ = o

abbrev pub sync_after : Option InFlight → Call → Result Reply Refusal → Option InFlight
sync_after o call (Ok r) = accepted o call r
sync_after o call (Err e) = o

-- the sync of a worker after a history, from the entries of its number alone: they change it only
-- where the role is Worker too (Callers)
abbrev pub sync : List Told → ℕ → Option InFlight
sync [] w = None
sync (e ∷ h) w = if w == e.caller.number then sync_after (sync h w) e.call e.answer else sync h w

-- rule: phases
abbrev pub SyncLaw : Type 0
SyncLaw = (window : ℕ) (h : List Told) → IsLegal window h → (w : ℕ)
    → map.get (state_of window h).syncs w ≡ sync h w

-- no two workers hold one key; nobody else holds any (Callers)
abbrev pub HeldLaw : Type 0
HeldLaw = (window : ℕ) (h : List Told) → IsLegal window h → (v w : ℕ) (a b : InFlight)
    → sync h v ≡ Some a → sync h w ≡ Some b → a.key ≡ b.key → v ≡ w
