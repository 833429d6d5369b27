-- The time of each accepted claim is the greatest one missed by the CronJob that is current then:
-- the claim is conditional on the version that its worker saw, so that what it saw is what stands.
use Rattle.std.proofs.Common.{◌≡◌, ℕ, ◌≤◌, Bool, true, false, List, [], ◌∷◌, length, Option, None, Some, refl, ap, sym, subst, ◌∙◌, arith}
use Rattle.std.specs.Prelude.{IfSome, Result, Ok, Err, if◌then◌else◌}
use Rattle.std.specs.FinMap as map
use Rattle.cj_base.specs.declared.refusal.Refusal.{Refusal}
use Rattle.cj_base.specs.declared.refusal.Refusal.TheVariants.{OutOfPhase, Stale, NotPermitted}
use Rattle.cj_types.specs.Keys.{Place}
use Rattle.cj_types.specs.Uids.{last_uid}
use Rattle.cj_types.specs.declared.cron.CronJob.{CronJob}
use Rattle.cj_types.specs.declared.job.Job.{Job}
use Rattle.cj_types.specs.declared.event.Event.{Event}
use Rattle.cj_types.specs.Events.{version_of}
use Rattle.cj_store.specs.Content.{Content}
use Rattle.cj_store.specs.Change.{map_ok, cron_modified}
use Rattle.cj_store.specs.Crons.{status_set}
use Rattle.cj_decide.specs.Decision.{Planned, IsPlan, IsDecided}
use Rattle.cj_decide.specs.declared.start.Claim.{Claim}
use Rattle.cj_decide.proofs.LawsLemmas.Claims.{claims_latest}
use Rattle.cj_calls.specs.Rows.{Told}
use Rattle.cj_calls.specs.declared.caller.Caller.{Caller}
use Rattle.cj_calls.specs.declared.caller.Role.{Role}
use Rattle.cj_calls.specs.declared.caller.Role.TheVariants.{User, Runner, Informer, Worker}
use Rattle.cj_calls.specs.declared.call.Call.{Call}
use Rattle.cj_calls.specs.declared.call.Call.TheVariants as Of
use Rattle.cj_calls.specs.declared.reply.Reply.{Reply}
use Rattle.cj_calls.specs.declared.reply.Reply.TheVariants as Say
use Rattle.cj_state.specs.phases.Inputs.{rests_on}
use Rattle.cj_state.specs.declared.phases.sync.InFlight.{InFlight}
use Rattle.cj_state.specs.declared.phases.sync.Phase.{Phase}
use Rattle.cj_state.specs.declared.phases.sync.Phase.TheVariants.{Checked}
use Rattle.cj_state.specs.declared.state.State.{State}
use Rattle.cj_state.specs.WorkerCalls.{refused, sync_of, by_sync, works, wrote, claims, claim_where, claim_in, claim}
use Rattle.cj_state.specs.Step.{by_role, step_of}
use Rattle.cj_state.specs.Legal.{state_of, IsLegal, IsPlanned, ArePlanned}
use Rattle.cj_world_laws.specs.once.Once.{Claimed}
use Rattle.cj_world_laws.specs.once.Times.{IsClaim, IsLatestMissed, IsTimely, AlwaysTimely}
use Rattle.cj_world_laws.proofs.OnceLemmas.Facts.{Homes, SeenFact, CheckedFact}
use Rattle.cj_world_laws.proofs.OnceLemmas.Frames.{Claims}
use Rattle.cj_world_laws.proofs.OnceLemmas.Writes.{mapped, set_is}
use Rattle.cj_world_laws.proofs.OnceLemmas.Calls.{Now, fact_of}
use Rattle.cj_world_laws.proofs.OnceLemmas.Steps.{inputs}
use Rattle.cj_world_laws.proofs.OnceLemmas.Whole.{do_fit, always}

-- the answer is that a time was claimed
abbrev Says : Result Reply Refusal → ℕ → ℕ → Type 0
Says r t v = r ≡ Ok (Say.Claimed (Some (t, v)))

-- A refusal is no answer that a time was claimed.
not_refused : {A : Type 0} (e : Refusal) (t v : ℕ) → Says (Err e) t v → A
not_refused e t v h = absurd (cc h)

-- An answer that no time was claimed is none that a time was.
not_without : {A : Type 0} (t v : ℕ) → Says (Ok (Say.Claimed None)) t v → A
not_without t v h = absurd (cc h)

-- Of an accepted claim the time is the one that its answer tells.
time_is : (a b t v : ℕ) → Says (Ok (Say.Claimed (Some (a, b)))) t v → a ≡ t
time_is a b t v h = let e : ◌≡◌ {A = ℕ × ℕ} (a, b) (t, v) = cc h in ap (λ (z : ℕ × ℕ). z.0) e

-- a plan's time is the latest one missed by the CronJob that it rests on
latest_of : (s : Content) (k : Place) (p : Planned) (c : CronJob) (y : Claim) → IsDecided p → p.cron ≡ Some c
    → p.steps.claim ≡ Some y → map.get s.crons k ≡ Some c → IsLatestMissed s k p y.time
latest_of s k p c y d is e at =
    let st = claims_latest c p.jobs p.active p.at p.zone p.steps y
    (subst (λ (o : Option CronJob). IsPlan o p.jobs p.active p.at p.zone p.steps) is d) e in
    record { cron = c; stands = at; zone = st.zone; known = st.known; latest = st.due }

-- A claim whose status was written is of the greatest time missed, as what was seen stands.
result_timely : (home : Homes) (s : State) (w : ℕ) (k : Place) (p : Planned) (c : CronJob) (y : Claim) (t v : ℕ)
    → IsDecided p → p.cron ≡ Some c → p.steps.claim ≡ Some y → SeenFact home s.store k c
    → (res : Result Event Refusal) → map_ok cron_modified (status_set s.store k c.meta.uid c.meta.version y.status)
    ≡ res
    → Says (wrote s w k (λ e. Say.Claimed (Some (y.time, version_of e))) (λ e. works p (version_of e) 0) res).answer t v
    → IsLatestMissed s.store k p t
result_timely home s w k p c y t v d is e g (Err z) r ok = not_refused z t v ok
result_timely home s w k p c y t v d is e g (Ok z) r ok =
    let a = mapped cron_modified (status_set s.store k c.meta.uid c.meta.version y.status) z r in
    let b = set_is s.store c.meta.uid c.meta.version y.status (map.get s.store.crons k) a.0 a.1 in
    let same : b.old ≡ c = g.same b.old b.there b.version in
    subst (IsLatestMissed s.store k p) (time_is y.time (version_of z) t v ok)
    (latest_of s.store k p c y d is e (b.there ∙ ap (λ (x : CronJob). Some x) same))

-- A claim of a time that is accepted has a plan with a CronJob, and is of its greatest time missed.
cron_timely : (home : Homes) (s : State) (w : ℕ) (k : Place) (p : Planned) (y : Claim) (t v : ℕ) → IsDecided p
    → p.steps.claim ≡ Some y
    → (o : Option CronJob) → p.cron ≡ o → IfSome o (SeenFact home s.store k) → Says (claims s w k p y o).answer t v
    → IsLatestMissed s.store k p t
cron_timely home s w k p y t v d e None is g ok = not_refused Stale t v ok
cron_timely home s w k p y t v d e (Some c) is g ok =
    result_timely home s w k p c y t v d is e g (map_ok cron_modified
    (status_set s.store k c.meta.uid c.meta.version y.status)) refl ok

-- A claim that is answered with a time has a plan that claims one, the greatest one missed.
where_timely : (home : Homes) (s : State) (w : ℕ) (k : Place) (p : Planned) (t v : ℕ) → IsDecided p
    → IfSome p.cron (SeenFact home s.store k)
    → (y : Option Claim) → p.steps.claim ≡ y → Says (claim_where s w k p y).answer t v → IsLatestMissed s.store k p t
where_timely home s w k p t v d g None e ok = not_without t v ok
where_timely home s w k p t v d g (Some y) e ok = cron_timely home s w k p y t v d e p.cron refl g ok

-- The facts of a CronJob that was checked have in them those of a CronJob that was seen.
seen_of : (home : Homes) (s : Content) (k : Place) (ks : List (Option Job)) (c : Option CronJob)
    → IfSome c (CheckedFact home s k ks) → IfSome c (SeenFact home s k)
seen_of home s k ks None f = tt
seen_of home s k ks (Some c) f = f.seen

module _ {s : State} {ms : List Claimed} {cl : Claims} {home : Homes} where
  -- For sync_timely: a time is only claimed in the phase Checked, and is the greatest one missed.
  phase_timely : Now s ms cl home → (w : ℕ) (p : Planned) (t v : ℕ) → IsDecided p → (x : InFlight) → sync_of s w
      ≡ Some x
      → (ph : Phase) → x.phase ≡ ph → Says (claim_in s w p x.key ph).answer t v → IsLatestMissed s.store x.key p t
  phase_timely f w p t v d x at (Checked c js ks) e ok = by (rests_on p c js ks) refl ok
    where
      by : (b : Bool) → rests_on p c js ks ≡ b →
          Says (if b then claim_where s w x.key p p.steps.claim else refused s Stale).answer t v
          → IsLatestMissed s.store x.key p t
      by false r h = not_refused Stale t v h
      by true r h =
          let i = inputs p c js ks r in
          let fact : IfSome c (CheckedFact home s.store x.key ks) = fact_of f w x at (Checked c js ks) e in
          let mine : IfSome p.cron (SeenFact home s.store x.key) = subst
          (λ (o : Option CronJob). IfSome o (SeenFact home s.store x.key)) (sym i.0)
          (seen_of home s.store x.key ks c fact) in
          where_timely home s w x.key p t v d mine p.steps.claim refl h
  phase_timely f w p t v d x at ph e ok = not_refused OutOfPhase t v ok

  -- For claim_timely: who claims a time has a sync, and the time is the greatest missed at its key.
  sync_timely : Now s ms cl home → (w : ℕ) (p : Planned) (t v : ℕ) → IsDecided p → (o : Option InFlight) → sync_of s w
      ≡ o
      → Says (by_sync s (claim_in s w p) o).answer t v → IsTimely s w p t
  sync_timely f w p t v d None at ok = not_refused OutOfPhase t v ok
  sync_timely f w p t v d (Some x) at ok = (x, at, phase_timely f w p t v d x at x.phase refl ok)

  -- A worker's Claim that is answered with a time is of the greatest time missed.
  claim_timely : Now s ms cl home → (w : ℕ) (p : Planned) (t v : ℕ) → IsDecided p → Says (claim s w p).answer t v
      → IsTimely s w p t
  unfolding claim
  claim_timely f w p t v d ok = sync_timely f w p t v d (sync_of s w) refl ok

  -- For step_timely: so it is for a caller of whatever role, as all but workers are refused.
  role_timely : Now s ms cl home → (role : Role) (w : ℕ) (p : Planned) (t v : ℕ) → IsDecided p
      → Says (by_role s role w (Of.Claim p)).answer t v → IsTimely s w p t
  role_timely f Worker w p t v d ok = claim_timely f w p t v d ok
  role_timely f User w p t v d ok = not_refused NotPermitted t v ok
  role_timely f Runner w p t v d ok = not_refused NotPermitted t v ok
  role_timely f Informer w p t v d ok = not_refused NotPermitted t v ok

  -- For entry_timely: whoever is answered a Claim with a time, it is the greatest time missed.
  step_timely : Now s ms cl home → (caller : Caller) (p : Planned) (t v : ℕ) → IsDecided p
      → Says (step_of s caller (Of.Claim p)).answer t v → IsTimely s caller.number p t
  unfolding step_of
  step_timely f caller p t v d ok = role_timely f caller.role caller.number p t v d ok

-- An accepted claim that enters a legal history is of the greatest time missed.
entry_timely : (window : ℕ) (h : List Told) (e : Told) → length (e ∷ h) ≤ last_uid → IsLegal window (e ∷ h)
    → ArePlanned (e ∷ h) → (p : Planned) (t : ℕ) → IsClaim e p t → IsTimely (state_of window h) e.caller.number p t
entry_timely window h e short legal planned p t is =
    let f = always window h (omega arith) legal.2 (do_fit h planned.1) in
    let d : IsDecided p = subst (λ (c : Call). IsPlanned c) is.call planned.0 in
    step_timely f.now e.caller p t is.version d (ap (λ (c : Call). (step_of (state_of window h) e.caller c).answer)
    (sym is.call) ∙ sym legal.0 ∙ is.answer)

-- For time_law: in a legal history each accepted claim is of the greatest time missed.
pub timely : AlwaysTimely
timely window [] short legal planned = tt
timely window (e ∷ h) short legal planned = (
  entry_timely window h e short legal planned,
  timely window h (omega arith) legal.2 planned.1,
)
