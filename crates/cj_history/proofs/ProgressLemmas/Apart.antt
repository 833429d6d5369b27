-- A CronJob that is left to its syncs has whole ones, one after the other.
use Rattle.std.proofs.Common.{◌≡◌, ◌≢◌, ◌⊎◌, inl, inr, ℕ, zero, suc, ◌+◌, ◌-◌, ◌<◌, ◌≤◌, ◌==◌, Bool, true, false, List, [], ◌∷◌, ◌++◌, drop, Option, Some, None, option_map, refl, sym, ap, subst, ◌∙◌, arith}
use Rattle.std.specs.Prelude.{IfSome, Result, Ok, Err, if◌then◌else◌}
use Rattle.std.specs.List.{slice_get}
use Rattle.std.specs.FinMap as map
use Rattle.std.proofs.lemmas.Bool.{cases_lt, eqb-true}
use Rattle.cj_base.specs.declared.refusal.Refusal.{Refusal}
use Rattle.cj_types.specs.Keys.{Place}
use Rattle.cj_types.specs.Made.{made_place}
use Rattle.cj_types.specs.declared.cron.CronJob.{CronJob}
use Rattle.cj_types.specs.declared.cron.CronSpec.{CronSpec}
use Rattle.cj_types.specs.declared.job.Job.{Job}
use Rattle.cj_types.specs.declared.job.JobDraft.{JobDraft}
use Rattle.cj_types.specs.declared.event.Event.{Event}
use Rattle.cj_types.specs.declared.event.Object.{Object}
use Rattle.cj_types.specs.declared.event.Object.TheVariants as Kind
use Rattle.cj_types.specs.declared.policy.Policy.{Policy}
use Rattle.cj_types.specs.declared.policy.Policy.TheVariants.{Allow, Forbid, Replace}
use Rattle.cj_types.specs.declared.policy.Reason.{Reason}
use Rattle.cj_schedule.specs.Matches.{Sets}
use Rattle.cj_schedule.specs.Grammar.{IsSchedule}
use Rattle.cj_zone.specs.declared.zone.Zone.{Zone}
use Rattle.cj_due.specs.Due.{reach, IsQuiet}
use Rattle.cj_queue.specs.Parts.{key_eq}
use Rattle.cj_queue.proofs.Sets.{eq_true, eq_self}
use Rattle.cj_status.specs.declared.refs.JobRef.{JobRef}
use Rattle.cj_decide.specs.Decision.{Planned, IsDecided, running_of}
use Rattle.cj_decide.specs.declared.start.Claim.{Claim}
use Rattle.cj_decide.specs.StartDecisions.{IsNext}
use Rattle.cj_decide.proofs.LawsLemmas.Claims.{no_claim}
use Rattle.cj_calls.specs.Rows.{Told}
use Rattle.cj_calls.specs.declared.caller.Caller.{Caller}
use Rattle.cj_calls.specs.declared.caller.Role.{Role}
use Rattle.cj_calls.specs.declared.caller.Role.TheVariants.{User, Runner, Informer, Worker}
use Rattle.cj_calls.specs.declared.call.Call.{Call}
use Rattle.cj_calls.specs.declared.call.Call.TheVariants as Of
use Rattle.cj_calls.specs.declared.end.End.TheVariants.{Well}
use Rattle.cj_calls.specs.declared.reply.Reply.{Reply}
use Rattle.cj_calls.specs.declared.reply.Reply.TheVariants as Is
use Rattle.cj_state.proofs.PhasesLemmas.Places.{steps_left}
use Rattle.cj_state.specs.phases.Inputs.{rests_on}
use Rattle.cj_state.specs.phases.Steps.{Step, step_at, all_steps, left}
use Rattle.cj_state.specs.declared.phases.sync.Work.{Work}
use Rattle.cj_state.specs.declared.phases.sync.Phase.{Phase}
use Rattle.cj_state.specs.declared.phases.sync.Phase.TheVariants.{Held, Seen, Listed, Checked, Works}
use Rattle.cj_state.specs.declared.phases.sync.InFlight.{InFlight}
use Rattle.cj_state.specs.WorkerCalls.{works, further}
use Rattle.cj_state.specs.Step.{step_of}
use Rattle.cj_state.specs.Legal.{IsLegal, IsPlanned, state_of}
use Rattle.cj_world_laws.specs.legal.Exclusive.{IsTake}
use Rattle.cj_world_laws.specs.legal.InFlightSyncs.{accepted, sync, sync_after}
use Rattle.cj_world_laws.proofs.LegalLemmas.HeldSyncs.{syncs_agree, one_holder}
use Rattle.cj_world_laws.proofs.LegalLemmas.Inputs.{rests_exactly}
use Rattle.cj_history.specs.store.Writes.{entry_written, writes}
use Rattle.cj_history.specs.progress.Undisturbed.{worker, object_of, is_of, AreAside, entry}
use Rattle.cj_history.specs.progress.Syncs.{call_of, calls_left, readings, works_off, IsReady, IsFor, IsLet}
use Rattle.cj_history.specs.progress.Kept.{NoneTakes}
use Rattle.cj_history.specs.progress.Every.{Moment, lets, forbids, instant_of, IsSaid, Led, name_of, IsSync, Synced, looked_upto, last_moment, GoOn, IsBegun}
use Rattle.cj_history.specs.progress.Apart.{Holds, IsFree, EndsWell, IsOnTime, ClaimsOnTime, Spares, KeepsApart, KeepApart, IsClock, HaveSynced, SyncsGoOn}
use Rattle.cj_history.specs.progress.Prompt.{IsOver, IsAwaited, first, again, GoesOn, KeepUp, ArePrompt, HaveKeptUp, SyncsKeepUp}
use Rattle.cj_history.proofs.StoreLemmas.Stores.{store_agrees}
use Rattle.cj_history.proofs.StoreLemmas.Answered.{cron_keyed}
use Rattle.cj_history.proofs.GapsLemmas.Whole.{same_nat}
use Rattle.cj_history.proofs.ProgressLemmas.Calls.{in_flight}
use Rattle.cj_history.proofs.ProgressLemmas.Aside.{caller_is, sync_aside, same_aside}
use Rattle.cj_history.proofs.ProgressLemmas.Started.{IsRead, Starting, starting, plan_of, seen_in}
use Rattle.cj_history.proofs.ProgressLemmas.Whole.{reads_on}
use Rattle.cj_history.proofs.ProgressLemmas.Makers.{Good, earlier}
use Rattle.cj_history.proofs.ProgressLemmas.Restated.{Has}
use Rattle.cj_history.proofs.ProgressLemmas.Led.{led_to}
use Rattle.cj_history.proofs.ProgressLemmas.Synced.{has_synced}
use Rattle.cj_history.proofs.ProgressLemmas.Moves.{Moves, sees, lists, checks, starts, goes_on, ends, gives_up, moves, Takes, takes}
use Rattle.cj_history.proofs.ProgressLemmas.Prompt.{next_due, quiet_next, over_on, over_now}

-- ---- callers

-- A caller is the worker of that number, or it isn't.
is_caller : (w : ℕ) (c : Caller) → (c ≡ worker w) ⊎ (c ≢ worker w)
is_caller w c = by (w == c.number) refl c.role refl
  where
    by : (b : Bool) → (w == c.number) ≡ b → (r : Role) → c.role ≡ r → (c ≡ worker w) ⊎ (c ≢ worker w)
    by true n Worker r = inl (caller_is w c n r)
    by true n User r = inr (λ e. cc (sym r ∙ ap (λ (x : Caller). x.role) e))
    by true n Runner r = inr (λ e. cc (sym r ∙ ap (λ (x : Caller). x.role) e))
    by true n Informer r = inr (λ e. cc (sym r ∙ ap (λ (x : Caller). x.role) e))
    by false n role r = inr (λ e.
        cc (sym n ∙ ap (λ (x : Caller). w == x.number) e ∙ same_nat w))

-- the key of a sync, if there is one, or another
abbrev key_in : Place → Option InFlight → Place
key_in other None = other
key_in other (Some x) = x.key

-- What an entry leaves of a worker's sync: a key that was taken by it, or is still held.
pub came : (o : Option InFlight) (call : Call) (a : Result Reply Refusal) (y : InFlight) → sync_after o call a ≡ Some y
    → ((x : InFlight) × (o ≡ Some x) × (x.key ≡ y.key)) ⊎ ((call ≡ Of.Take) × (a ≡ Ok (Is.Key y.key)))
came o call (Err e) y at = inl (y, at, refl)
came o call (Ok r) y at = by o call r at
  where
    by : (p : Option InFlight) (c : Call) (r : Reply) → accepted p c r ≡ Some y
        → ((x : InFlight) × (p ≡ Some x) × (x.key ≡ y.key))
        ⊎ ((c ≡ Of.Take) × (◌≡◌ {A = Result Reply Refusal} (Ok r) (Ok (Is.Key y.key))))
    by p Of.Take (Is.Key k) f = inr (refl, ap (λ (o : Option InFlight). Ok (Is.Key (key_in y.key o))) f)
    by None Of.SeeCron (Is.SeenCron c) f = absurd (cc f)
    by (Some x) Of.SeeCron (Is.SeenCron c) f = inl (x, refl, ap (key_in y.key) f)
    by None Of.SeeJobs (Is.SeenJobs js) f = absurd (cc f)
    by (Some x) Of.SeeJobs (Is.SeenJobs js) f = inl (x, refl, ap (key_in y.key) f)
    by None Of.SeeActive (Is.SeenActive ks) f = absurd (cc f)
    by (Some x) Of.SeeActive (Is.SeenActive ks) f = inl (x, refl, ap (key_in y.key) f)
    by None (Of.Claim plan) (Is.Claimed None) f = absurd (cc f)
    by (Some x) (Of.Claim plan) (Is.Claimed None) f = inl (x, refl, ap (key_in y.key) f)
    by None (Of.Claim plan) (Is.Claimed (Some c)) f = absurd (cc f)
    by (Some x) (Of.Claim plan) (Is.Claimed (Some c)) f = inl (x, refl, ap (key_in y.key) f)
    by None Of.DropNext (Is.Dropped d) f = absurd (cc f)
    by (Some x) Of.DropNext (Is.Dropped d) f = inl (x, refl, ap (key_in y.key) f)
    by None Of.MakeNext (Is.Job j) f = absurd (cc f)
    by (Some x) Of.MakeNext (Is.Job j) f = inl (x, refl, ap (key_in y.key) f)
    by None Of.SetStatus (Is.Version v) f = absurd (cc f)
    by (Some x) Of.SetStatus (Is.Version v) f = inl (x, refl, ap (key_in y.key) f)
    by p (Of.Finish end rs) Is.Done f = absurd (cc f)
    by p c r f = inl (y, f, refl)

-- ---- what others write

-- Who spares the CronJob and a Job spares the CronJob.
spares_cron : (k q : Place) (o : Option Event) → IfSome o (λ x. is_of k (Some q) (object_of x) ≡ false)
    → IfSome o (λ x. is_of k None (object_of x) ≡ false)
spares_cron k q None s = tt
spares_cron k q (Some x) s = by (object_of x) s
  where
    by : (y : Object) → is_of k (Some q) y ≡ false → is_of k None y ≡ false
    by (Kind.Cron c) e = e
    by (Kind.Job j) e = refl

-- no Job is named, or one of a name that is made for the CronJob
abbrev IsNamed : Place → Option Place → Type 0
IsNamed k None = Unit {0}
IsNamed k (Some q) = (t : ℕ) × (q ≡ made_place k t)

-- Who spares the CronJob, and each Job of a name that is made for it, spares what is named.
spares_named : (h : List Told) (e : Told) (k : Place) (q : Option Place) → IsNamed k q
    → ((t : ℕ) → Spares h e k (Some (made_place k t))) → Spares h e k q
spares_named h e k None i s =
    spares_cron k (made_place k 0) (entry_written (writes h) (sync h e.caller.number) e.call e.answer) (s 0)
spares_named h e k (Some q) i s = subst (λ (x : Place). Spares h e k (Some x)) (sym i.1) (s i.0)

-- ---- plans

-- The name of a plan's Job is one that is made for its CronJob.
named : (p : Planned) (k : Place) (cron : CronJob) → IsDecided p → p.cron ≡ Some cron → cron.key ≡ k
    → IsNamed k (name_of p)
named p k cron decided seen key = by p.steps.claim refl
  where
    by : (o : Option Claim) → p.steps.claim ≡ o → IsNamed k (name_of p)
    by None e =
        let none : p.steps.make ≡ None =
        (no_claim (Some cron) p.jobs p.active p.at p.zone p.steps (plan_of p cron decided seen) e).make in
        subst (λ (d : Option JobDraft). IsNamed k (option_map (λ (x : JobDraft). x.key) d)) (sym none) tt
    by (Some y) e =
        let start : Starting p cron y = starting p cron y decided seen e in
        subst (λ (d : Option JobDraft). IsNamed k (option_map (λ (x : JobDraft). x.key) d)) (sym start.make)
        (y.time, ap (λ (q : Place). made_place q y.time) key)

-- A policy lets a Job start, or doesn't.
let_or_not : (p : Policy) (running : List JobRef) → IsLet p running ⊎ (IsLet p running → ⊥)
let_or_not Allow running = inl tt
let_or_not Forbid [] = inl refl
let_or_not Forbid (r ∷ rs) = inr (λ e. cc e)
let_or_not Replace running = inl tt

-- So at each instant there is the moment that says so.
moment_of : (t : ℕ) (p : Policy) (running : List JobRef) → (m : Moment) × (t ≡ instant_of m) × IsSaid m p running
moment_of t p running = by (let_or_not p running)
  where
    by : IsLet p running ⊎ (IsLet p running → ⊥) → (m : Moment) × (t ≡ instant_of m) × IsSaid m p running
    by (inl f) = (lets t, refl, f)
    by (inr n) = (forbids t, refl, n)

-- Where a list has nothing at a place, nothing is left of it there.
none_left : {X : Type 0} (xs : List X) (i : ℕ) → slice_get xs i ≡ None → drop i xs ≡ []
none_left [] zero e = refl
none_left [] (suc i) e = refl
none_left (x ∷ xs) zero e = absurd (cc e)
none_left (x ∷ xs) (suc i) e = none_left xs i e

-- So where a plan has no next step.
steps_done : (p : Planned) (place : ℕ) → step_at p.steps place ≡ None → left p.steps place ≡ []
unfolding step_at
steps_done p place e = none_left (all_steps p.steps) place e

-- ---- calls that took place

-- An entry of a worker is what its call is answered.
entry_is : (window w : ℕ) (h : List Told) (e : Told) (call : Call) → IsLegal window (e ∷ h) → e.caller ≡ worker w
    → e.call ≡ call
    → e ≡ entry window h w call
entry_is window w h e call l by is =
    let told : e.answer ≡ (step_of (state_of window h) (worker w) call).answer =
    l.0 ∙ ap (λ (c : Caller). (step_of (state_of window h) c e.call).answer) by
    ∙ ap (λ (c : Call). (step_of (state_of window h) (worker w) c).answer) is in
    ap (λ (c : Caller). record { caller = c; call = e.call; answer = e.answer }) by
    ∙ ap (λ (c : Call). record { caller = worker w; call = c; answer = e.answer }) is
    ∙ ap (λ (a : Result Reply Refusal). record { caller = worker w; call = call; answer = a }) told

-- A call after what others called aside, and those after it, took place.
led_next : (window w : ℕ) (k : Place) (q : Option Place) (h : List Told) (e : Told) (call : Call) (calls : List Call)
    (es since g : List Told)
    → h ≡ es ++ since → e ≡ entry window h w call → AreAside w k q es since
    → Led window w k q (e ∷ h) calls g → Led window w k q since (call ∷ calls) g
led_next window w k q h e call calls es since g is one a y =
    let same : e ∷ h ≡ entry window (es ++ since) w call ∷ (es ++ since) =
    ap (λ (x : Told). x ∷ h) one ∙ ap (λ (x : List Told). entry window x w call ∷ x) is in
    (es, a, subst (λ (x : List Told). Led window w k q x calls g) same y)

-- the readings that are left
abbrev left_of : Phase → List Call
left_of Held = Of.SeeCron ∷ Of.SeeJobs ∷ Of.SeeActive ∷ []
left_of (Seen c) = Of.SeeJobs ∷ Of.SeeActive ∷ []
left_of (Listed c js) = Of.SeeActive ∷ []
left_of (Checked c js ks) = []
left_of (Works work) = []

abbrev is_reading : Phase → Bool
is_reading (Works work) = false
is_reading p = true

-- start is the history on, and k the key; cron is the CronJob that stands there, s its schedule and
-- z the zone. What is said of due times holds where D does.
module _ (window : ℕ) (start : List Told) (k : Place) (cron : CronJob) (s : Sets) (z : Zone)
    (clock : List Told → ℕ) (D : Type 0) (back : IsClock clock) (b : IsBegun window start k cron s) where
  -- ---- due times

  -- what is known of when the key is taken again: it wasn't taken from the beginning on; or its last
  -- sync ended well, and the next time is the first that is due after its moment
  abbrev Waits : List Moment → List Told → Type 0
  Waits [] h = (es : List Told) × (h ≡ es ++ start) × NoneTakes k es
  Waits (m ∷ ms) h = (next : Option ℕ) × IsOver h k next × IsNext s z (instant_of m) next

  -- no due time was passed over, nor was one awaited for a minute
  record IsPast (ms : List Moment) (now : ℕ) : Type 0 where
    prompt : ArePrompt s z cron ms
    quiet : IsQuiet s z (last_moment cron ms) (now - 60)

  -- So it was at an earlier moment.
  past_before : (ms : List Moment) (later now : ℕ) → now ≤ later → IsPast ms later → IsPast ms now
  past_before ms later now l p = record {
    prompt = p.prompt;
    quiet = λ t a c. p.quiet t a (omega (arith, c, l));
  }

  -- Who doesn't take the key leaves what is known of it.
  waits_on : (ms : List Moment) (e : Told) (h : List Told) → (IsTake k e → ⊥) → Waits ms h → Waits ms (e ∷ h)
  waits_on [] e h not (es, is, none) = (e ∷ es, ap (λ (x : List Told). e ∷ x) is, (not, none))
  waits_on (m ∷ ms) e h not (next, over, due) = (next, over_on k next e h not over, due)

  -- The moments go on from the beginning.
  first_low : (ms : List Moment) → GoOn cron ms → looked_upto cron [] ≤ last_moment cron ms
  first_low [] on = omega arith
  first_low (m ∷ ms) on = let a = first_low ms on.1 in let c = on.0 in omega (arith, a, c)

  -- Where no sync is awaited from a time on that has come, nothing is due since the last one.
  caught : (ms : List Moment) (h : List Told) (now : ℕ) → GoOn cron ms → Waits ms h
      → ((t : ℕ) → IsAwaited k cron start h t → now < t) → now ≤ looked_upto cron [] + reach
      → IsQuiet s z (last_moment cron ms) now
  caught [] h now on (es, is, none) ahead within = λ t a c.
      let l = ahead (looked_upto cron [] + 1) (first es is none refl) in absurd (omega (arith, a, c, l))
  caught (m ∷ ms) h now on (next, over, due) ahead within =
      let low = first_low (m ∷ ms) on in
      quiet_next s z (instant_of m) now next due
      (λ t e. ahead t (again (subst (λ (o : Option ℕ). IsOver h k o) e over))) (omega (arith, within, low))

  -- So no due time is passed over where the clock goes on.
  past_on : (ms : List Moment) (h : List Told) (next : ℕ) → GoOn cron ms → Waits ms h
      → GoesOn k cron start h (clock h) next → clock h ≤ looked_upto cron [] + reach → IsPast ms (clock h)
      → IsPast ms next
  past_on ms h next on waits goes within past = by (cases_lt (clock h) next)
    where
      by : (clock h < next) ⊎ (next ≤ clock h) → IsPast ms next
      by (inl l) = record {
        prompt = past.prompt;
        quiet = λ t a c.
            let m = goes.minute in
            caught ms h (clock h) on waits (goes.ahead l) within t a (omega (arith, c, m));
      }
      by (inr l) = past_before ms (clock h) next l past

  -- ---- between syncs

  -- An entry that doesn't write the CronJob is one of others after its syncs.
  synced_on : (ms : List Moment) (e : Told) (h : List Told) → Spares h e k None → Synced window k z start ms h
      → Synced window k z start ms (e ∷ h)
  synced_on [] e h spares (es, others, is) =
      (e ∷ es, (subst (λ (x : List Told). Spares x e k None) is spares, others), ap (λ (x : List Told). e ∷ x) is)
  synced_on (m ∷ ms) e h spares (before, after, es, rest, did, others, is) = (
    before,
    after,
    e ∷ es,
    rest,
    did,
    (subst (λ (x : List Told). Spares x e k None) is spares, others),
    ap (λ (x : List Told). e ∷ x) is,
  )

  -- ---- in a sync

  -- where a worker's sync began, and the syncs before it
  record Begins (w : ℕ) : Type 0 where
    before : List Told
    good : Good window before
    moments : List Moment
    on : GoOn cron moments
    synced : Synced window k z start moments before
    seen : CronJob
    ready : IsReady window before w k seen

  -- after the Take
  abbrev begun : {w : ℕ} → Begins w → List Told
  begun {w} y = entry window y.before w Of.Take ∷ y.before

  -- since the worker's last call others called aside; with the readings that are left all took
  -- place
  record Reads (w : ℕ) (y : Begins w) (p : Phase) (h : List Told) : Type 0 where
    others : List Told
    since : List Told
    is : h ≡ others ++ since
    aside : (q : Option Place) → IsNamed k q → AreAside w k q others since
    rest : (g : List Told) → Led window w k None since (left_of p) g
        → Led window w k None (begun y) readings g

  -- so too; and with the steps that are left its plan is worked off
  record WorksOff (w : ℕ) (y : Begins w) (work : Work) (h : List Told) : Type 0 where
    read : List Told
    reads : Led window w k None (begun y) readings read
    decides : IsFor read w k work.plan
    moment : Moment
    at : work.plan.at ≡ instant_of moment
    on : last_moment cron y.moments ≤ instant_of moment
    upto : instant_of moment ≤ clock h
    past : D → IsPast y.moments (instant_of moment)
    paused : D → clock h ≤ instant_of moment
    next : IsNext s z (instant_of moment) work.plan.steps.next
    zone : work.plan.zone ≡ Some z
    said : IsSaid moment y.seen.spec.policy (running_of y.seen work.plan.active)
    free : IfSome (name_of work.plan) (λ q. map.get (state_of window read).store.jobs q ≡ None)
    name : IsNamed k (name_of work.plan)
    others : List Told
    since : List Told
    is : h ≡ others ++ since
    aside : AreAside w k (name_of work.plan) others since
    rest : (g : List Told)
        → Led window w k (name_of work.plan) since
        (calls_left work.plan.steps.reasons (left work.plan.steps work.place)) g
        → Led window w k (name_of work.plan) read (works_off work.plan) g

  -- how far the CronJob's syncs are
  data Going (h : List Told) : Type 0 where
    between : IsFree k h → (ms : List Moment) → GoOn cron ms → last_moment cron ms ≤ clock h
        → Synced window k z start ms h → Waits ms h → (D → IsPast ms (clock h)) → Going h
    reading : (w : ℕ) (p : Phase) → is_reading p ≡ true → sync h w ≡ Some (in_flight k p) → (y : Begins w)
        → last_moment cron y.moments ≤ clock h → (D → IsPast y.moments (clock h)) → Reads w y p h → Going h
    working : (w : ℕ) (work : Work) → sync h w ≡ Some (in_flight k (Works work)) → (y : Begins w)
        → WorksOff w y work h → Going h

  -- e is an entry after h that keeps to it.
  module _ (e : Told) (h : List Told) (good : Good window (e ∷ h))
      (keeps : KeepsApart window k cron z (clock h) h e)
      (goes : D → GoesOn k cron start h (clock h) (clock (e ∷ h)))
      (within : D → clock h ≤ looked_upto cron [] + reach) where
    old : Good window h
    old = earlier window (e ∷ []) h good

    later : (n : ℕ) → n ≤ clock h → n ≤ clock (e ∷ h)
    later n l = let on = back e h in omega (arith, l, on)

    -- While somebody holds the key the clock stands still.
    stands_still : D → (c : Caller) → Holds h k c → clock (e ∷ h) ≤ clock h
    stands_still d c f = by (cases_lt (clock h) (clock (e ∷ h)))
      where
        by : (clock h < clock (e ∷ h)) ⊎ (clock (e ∷ h) ≤ clock h) → clock (e ∷ h) ≤ clock h
        by (inl l) = absurd ((goes d).free l c f)
        by (inr l) = l

    -- A worker's sync is what it was, where the entry is another number's.
    same_sync : (v : ℕ) → (v == e.caller.number) ≡ false → sync (e ∷ h) v ≡ sync h v
    same_sync v n = ap (λ (x : Bool). if x then sync_after (sync h v) e.call e.answer else sync h v) n

    own_sync : sync (e ∷ h) e.caller.number ≡ sync_after (sync h e.caller.number) e.call e.answer
    own_sync =
        ap (λ (x : Bool). if x then sync_after (sync h e.caller.number) e.call e.answer else sync h e.caller.number)
        (same_nat e.caller.number)

    -- ---- between syncs

    module _ (free : IsFree k h) (ms : List Moment) (on : GoOn cron ms) (upto : last_moment cron ms ≤ clock h)
        (y : Synced window k z start ms h) (waits : Waits ms h) (past : D → IsPast ms (clock h)) where
      past_then : D → IsPast ms (clock (e ∷ h))
      past_then d = past_on ms h (clock (e ∷ h)) on waits (goes d) (within d) (past d)

      -- Where the caller doesn't hold the key then, it didn't take it.
      untaken : ((x : InFlight) → sync (e ∷ h) e.caller.number ≡ Some x → x.key ≡ k → ⊥) → IsTake k e → ⊥
      untaken none t =
          none (in_flight k Held)
          (own_sync ∙ ap (λ (c : Call). sync_after (sync h e.caller.number) c e.answer) t.call
          ∙ ap (λ (a : Result Reply Refusal). sync_after (sync h e.caller.number) Of.Take a) t.answer) refl

      -- Where the caller doesn't hold the key then, nobody does.
      still_free : ((x : InFlight) → sync (e ∷ h) e.caller.number ≡ Some x → x.key ≡ k → ⊥) → IsFree k (e ∷ h)
      still_free none c f = by (c.number == e.caller.number) refl
        where
          by : (t : Bool) → (c.number == e.caller.number) ≡ t → ⊥
          by true n =
              none (in_flight k f.phase)
              (ap (sync (e ∷ h)) (sym (eqb-true c.number e.caller.number n)) ∙ f.sync) refl
          by false n = free c (record { role = f.role; phase = f.phase; sync = sym (same_sync c.number n) ∙ f.sync })

      stays : ((x : InFlight) → sync (e ∷ h) e.caller.number ≡ Some x → x.key ≡ k → ⊥) → Going (e ∷ h)
      stays none =
          between (still_free none) ms on (later (last_moment cron ms) upto)
          (synced_on ms e h (keeps.alone (free e.caller)) y) (waits_on ms e h (untaken none) waits) past_then

      -- A Take of the key begins a sync.
      begins : e.call ≡ Of.Take → e.answer ≡ Ok (Is.Key k) → Going (e ∷ h)
      begins call answer =
          let t : Takes (state_of window h) e.caller k =
          takes (state_of window h) e.caller k
          (ap (λ (c : Call). (step_of (state_of window h) e.caller c).answer) (sym call) ∙ sym good.legal.0 ∙ answer) in
          let n : ℕ = e.caller.number in
          let by : e.caller ≡ worker n = ap (λ (r : Role). record { number = n; role = r }) t.role in
          let has : Has window k cron h = has_synced window start k cron s z b ms h old y in
          let sits : sync (e ∷ h) n ≡ Some (in_flight k Held) =
          own_sync ∙ ap (λ (c : Call). sync_after (sync h n) c e.answer) call
          ∙ ap (λ (a : Result Reply Refusal). sync_after (sync h n) Of.Take a) answer in
          let one : e ≡ entry window h n Of.Take = entry_is window n h e Of.Take good.legal by call in
          let start_at : Begins n = record {
            before = h;
            good = old;
            moments = ms;
            on = on;
            synced = y;
            seen = has.now;
            ready = record {
              idle = sym (syncs_agree window h old.legal n) ∙ t.idle;
              line = t.line;
              stands = has.stands;
            };
          } in
          reading n Held refl sits start_at (later (last_moment cron ms) upto) past_then (record {
            others = [];
            since = e ∷ h;
            is = refl;
            aside = λ q i. tt;
            rest = λ g l. subst (λ (x : Told). Led window n k None (x ∷ h) readings g) one l;
          })

      from_between : Going (e ∷ h)
      from_between = by (sync (e ∷ h) e.caller.number) refl
        where
          at : (x : InFlight) → sync (e ∷ h) e.caller.number ≡ Some x → (t : Bool) → key_eq x.key k ≡ t
              → Going (e ∷ h)
          at x f true t =
              let key : x.key ≡ k = eq_true x.key k t in
              here key (came (sync h e.caller.number) e.call e.answer x (sym own_sync ∙ f))
            where
              here : x.key ≡ k
                  → ((v : InFlight) × (sync h e.caller.number ≡ Some v) × (v.key ≡ x.key))
                  ⊎ ((e.call ≡ Of.Take) × (e.answer ≡ Ok (Is.Key x.key))) → Going (e ∷ h)
              here key (inl (v, g, i)) =
                  let at_k : v ≡ in_flight k v.phase =
                  ap (λ (q : Place). record { key = q; phase = v.phase }) (i ∙ key) in
                  absurd (free (worker e.caller.number)
                  (record { role = refl; phase = v.phase; sync = g ∙ ap (λ (u : InFlight). Some u) at_k }))
              here key (inr (c, a)) = begins c (a ∙ ap (λ (q : Place). Ok (Is.Key q)) key)
          at x f false t = stays (λ v g i.
              let same : x ≡ v = cc (sym f ∙ g) in
              let own : key_eq x.key k ≡ true =
              ap (λ (u : InFlight). key_eq u.key k) same ∙ ap (λ (q : Place). key_eq q k) i ∙ eq_self k in
              cc (sym t ∙ own))

          by : (o : Option InFlight) → sync (e ∷ h) e.caller.number ≡ o → Going (e ∷ h)
          by None f = stays (λ v g i. cc (sym f ∙ g))
          by (Some x) f = at x f (key_eq x.key k) refl

    -- ---- in a sync

    -- A caller that isn't the worker leaves it where it is.
    others_leave : (w : ℕ) (p : Phase) → sync h w ≡ Some (in_flight k p) → e.caller ≢ worker w
        → (sync (e ∷ h) w ≡ Some (in_flight k p)) × ((q : Option Place) → IsNamed k q → Spares h e k q)
    others_leave w p at not =
        let spares : (t : ℕ) → Spares h e k (Some (made_place k t)) =
        keeps.aside (worker w) (record { role = refl; phase = p; sync = at }) not in (
          sync_aside window w k None (e ∷ []) h good.legal (not, spares_named h e k None tt spares, tt) ∙ at,
          λ q i. spares_named h e k q i spares,
        )

    -- What others called aside, with one entry more.
    aside_on : (w : ℕ) (q : Option Place) (others since : List Told) → h ≡ others ++ since → e.caller ≢ worker w
        → Spares h e k q
        → AreAside w k q others since → AreAside w k q (e ∷ others) since
    aside_on w q others since is not spares a = (not, subst (λ (x : List Told). Spares x e k q) is spares, a)

    -- ---- the readings

    module _ (w : ℕ) (p : Phase) (at : sync h w ≡ Some (in_flight k p)) (y : Begins w)
        (upto : last_moment cron y.moments ≤ clock h) (past : D → IsPast y.moments (clock h))
        (x : Reads w y p h) where
      holds : Holds h k (worker w)
      holds = record { role = refl; phase = p; sync = at }

      still_past : D → IsPast y.moments (clock (e ∷ h))
      still_past d = past_before y.moments (clock h) (clock (e ∷ h)) (stands_still d (worker w) holds) (past d)

      -- After one reading more.
      reads_next : (q : Phase) → e.caller ≡ worker w → left_of p ≡ e.call ∷ left_of q → Reads w y q (e ∷ h)
      reads_next q by more = record {
        others = [];
        since = e ∷ h;
        is = refl;
        aside = λ n i. tt;
        rest = λ g l. x.rest g (subst (λ (calls : List Call). Led window w k None x.since calls g) (sym more)
            (led_next window w k None h e e.call (left_of q) x.others x.since g x.is
            (entry_is window w h e e.call good.legal by refl) (x.aside None tt) l));
      }

      -- The claim, by what was read.
      claims : e.caller ≡ worker w → (c : Option CronJob) (js : List Job) (ks : List (Option Job)) (plan : Planned)
          (v : ℕ)
          → p ≡ Checked c js ks → e.call ≡ Of.Claim plan → rests_on plan c js ks ≡ true
          → sync (e ∷ h) w ≡ Some (in_flight k (works plan v 0))
          → IsOnTime cron z (clock h) (state_of window h).store plan
          → Going (e ∷ h)
      claims by c js ks plan v phase call rests sits time =
          let now : Good window (x.others ++ x.since) = subst (Good window) x.is old in
          let here : Good window x.since = earlier window x.others x.since now in
          let three = (rests_exactly plan c js ks).0 rests in
          let reads : Led window w k None (begun y) readings x.since =
          x.rest x.since (subst (λ (r : Phase). Led window w k None x.since (left_of r) x.since) (sym phase) refl) in
          let read : IsRead w k y.seen (state_of window x.since) =
          led_to window w k None readings (λ g. IsRead w k y.seen (state_of window g)) (begun y) x.since
          (reads_on window y.before w k y.seen y.good.legal y.ready) reads here in
          let same : Checked c js ks ≡ Checked plan.cron plan.jobs plan.active =
          ap (λ (o : Option CronJob). Checked o js ks) (sym three.0)
          ∙ ap (λ (l : List Job). Checked plan.cron l ks) (sym three.1)
          ∙ ap (λ (l : List (Option Job)). Checked plan.cron plan.jobs l) (sym three.2) in
          let decided : IsDecided plan = subst IsPlanned call good.planned.0 in
          let rests_then : sync x.since w ≡ Some (in_flight k (Checked plan.cron plan.jobs plan.active)) =
          sym (sync_aside window w k None x.others x.since now.legal (x.aside None tt))
          ∙ ap (λ (g : List Told). sync g w) (sym x.is) ∙ at
          ∙ ap (λ (r : Phase). Some (in_flight k r)) (phase ∙ same) in
          let seen : plan.cron ≡ Some y.seen =
          sym (ap seen_in (sym read.sync ∙ (syncs_agree window x.since here.legal w ∙ rests_then))) in
          let has : Has window k cron y.before =
          has_synced window start k cron s z b y.moments y.before y.good y.synced in
          let stood : has.now ≡ y.seen = cc (sym has.stands ∙ y.ready.stands) in
          let spec : y.seen.spec ≡ cron.spec = ap (λ (j : CronJob). j.spec) (sym stood) ∙ has.same.spec in
          let key : y.seen.key ≡ k =
          cron_keyed (writes y.before) k y.seen
          (sym ((store_agrees window y.before y.good.legal).crons k) ∙ y.ready.stands) in
          let name : IsNamed k (name_of plan) = named plan k y.seen decided seen key in
          let m = moment_of plan.at y.seen.spec.policy (running_of y.seen plan.active) in
          let told : instant_of m.0 ≡ clock h = sym m.1 ∙ time.at in
          let aside : AreAside w k (name_of plan) x.others x.since = x.aside (name_of plan) name in
          working w (record { plan = plan; version = v; place = 0 }) sits y (record {
            read = x.since;
            reads = reads;
            decides = record { decided = decided; rests = rests_then };
            moment = m.0;
            at = m.1;
            on = subst (λ (n : ℕ). last_moment cron y.moments ≤ n) (sym told) upto;
            upto = later (instant_of m.0) (subst (λ (n : ℕ). n ≤ clock h) (sym told) (omega arith));
            past = λ d. subst (IsPast y.moments) (sym told) (past d);
            paused = λ d. subst (λ (n : ℕ). clock (e ∷ h) ≤ n) (sym told) (stands_still d (worker w) holds);
            next = subst (λ (n : ℕ). IsNext s z n plan.steps.next) m.1
                (next_due y.seen plan.jobs plan.active plan.at plan.zone plan.steps z s
                (plan_of plan y.seen decided seen)
                (ap (λ (j : CronSpec). j.suspend) spec ∙ b.runs) (time.zone y.seen seen spec)
                (subst (λ (j : CronSpec). IsSchedule j.schedule s) (sym spec) b.reads));
            zone = time.zone y.seen seen spec;
            said = m.2;
            free = free_then (name_of plan) name aside now.legal
                (subst (λ (g : List Told). IfSome (name_of plan) (λ q. map.get (state_of window g).store.jobs q ≡ None))
                x.is time.free);
            name = name;
            others = [];
            since = e ∷ h;
            is = refl;
            aside = tt;
            rest = λ g l. led_next window w k (name_of plan) h e (Of.Claim plan)
                (calls_left plan.steps.reasons (all_steps plan.steps)) x.others x.since g x.is
                (entry_is window w h e (Of.Claim plan) good.legal by call) aside l;
          })
        where
          -- The name was free when the readings ended.
          free_then : (q : Option Place) → IsNamed k q → AreAside w k q x.others x.since
              → IsLegal window (x.others ++ x.since)
              → IfSome q (λ i. map.get (state_of window (x.others ++ x.since)).store.jobs i ≡ None)
              → IfSome q (λ i. map.get (state_of window x.since).store.jobs i ≡ None)
          free_then None i a l f = tt
          free_then (Some q) i a l f = sym (same_aside window w k (Some q) x.others x.since l a).job ∙ f

      -- What the worker's own call leads to.
      reading_own : is_reading p ≡ true → e.caller ≡ worker w → Holds h k e.caller
          → Moves k p e.call (sync (e ∷ h) w) → Going (e ∷ h)
      reading_own is by f (sees c phase call sits) =
          reading w (Seen c) refl sits y (later (last_moment cron y.moments) upto) still_past
          (reads_next (Seen c) by (ap left_of phase ∙ ap (λ (r : Call). r ∷ left_of (Seen c)) (sym call)))
      reading_own is by f (lists c js phase call sits) =
          reading w (Listed c js) refl sits y (later (last_moment cron y.moments) upto) still_past
          (reads_next (Listed c js) by (ap left_of phase ∙ ap (λ (r : Call). r ∷ left_of (Listed c js)) (sym call)))
      reading_own is by f (checks c js ks phase call sits) =
          reading w (Checked c js ks) refl sits y (later (last_moment cron y.moments) upto) still_past
          (reads_next (Checked c js ks) by (ap left_of phase ∙ ap (λ (r : Call). r ∷ []) (sym call)))
      reading_own is by f (starts c js ks plan v phase call rests sits) =
          claims by c js ks plan v phase call rests sits
          (subst (ClaimsOnTime cron z (clock h) (state_of window h).store) call (keeps.claims f))
      reading_own is by f (goes_on work n phase at_n call sits) =
          absurd (cc (sym is ∙ ap is_reading phase))
      reading_own is by f (ends work reasons phase at_n call sits) =
          absurd (cc (sym is ∙ ap is_reading phase))
      reading_own is by f (gives_up now reasons call sits) =
          absurd (subst (λ (c : Call). EndsWell c f.phase) call (keeps.ends f))

      from_reading : is_reading p ≡ true → Going (e ∷ h)
      from_reading is = by (is_caller w e.caller)
        where
          by : (e.caller ≡ worker w) ⊎ (e.caller ≢ worker w) → Going (e ∷ h)
          by (inl own) =
              let f : Holds h k e.caller = subst (Holds h k) (sym own) holds in
              reading_own is own f (moves window h e w k p good.legal own at (keeps.accepted f))
          by (inr not) =
              let o = others_leave w p at not in
              reading w p is o.0 y (later (last_moment cron y.moments) upto) still_past (record {
                others = e ∷ x.others;
                since = x.since;
                is = ap (λ (g : List Told). e ∷ g) x.is;
                aside = λ q i. aside_on w q x.others x.since x.is not (o.1 q i) (x.aside q i);
                rest = x.rest;
              })

    -- ---- the plan

    module _ (w : ℕ) (work : Work) (at : sync h w ≡ Some (in_flight k (Works work))) (y : Begins w)
        (x : WorksOff w y work h) where
      abbrev p : Planned
      p = work.plan

      -- The clock still stands at the moment.
      still_paused : D → clock (e ∷ h) ≤ instant_of x.moment
      still_paused d =
          let a = stands_still d (worker w) (record { role = refl; phase = Works work; sync = at }) in
          let c = x.paused d in
          omega (arith, a, c)

      -- One step more.
      steps_on : e.caller ≡ worker w → (n : Step) → step_at p.steps work.place ≡ Some n → e.call ≡ call_of n
          → sync (e ∷ h) w ≡ Some (in_flight k (further work)) → Going (e ∷ h)
      steps_on by n is call sits =
          working w (record { plan = p; version = work.version; place = work.place + 1 }) sits y (record {
            read = x.read;
            reads = x.reads;
            decides = x.decides;
            moment = x.moment;
            at = x.at;
            on = x.on;
            upto = later (instant_of x.moment) x.upto;
            past = x.past;
            paused = still_paused;
            next = x.next;
            zone = x.zone;
            said = x.said;
            free = x.free;
            name = x.name;
            others = [];
            since = e ∷ h;
            is = refl;
            aside = tt;
            rest = λ g l. x.rest g
                (subst (λ (steps : List Step). Led window w k (name_of p) x.since (calls_left p.steps.reasons steps) g)
                (sym (steps_left p.steps work.place n is))
                (led_next window w k (name_of p) h e (call_of n)
                (calls_left p.steps.reasons (left p.steps (work.place + 1))) x.others x.since g x.is
                (entry_is window w h e (call_of n) good.legal by call) x.aside l));
          })

      -- The end, after which nobody holds the key.
      ends_it : e.caller ≡ worker w → step_at p.steps work.place ≡ None → e.call ≡ Of.Finish Well p.steps.reasons
          → sync (e ∷ h) w ≡ None → Going (e ∷ h)
      ends_it by is call sits =
          let did : Led window w k (name_of p) x.read (works_off p) (e ∷ h) =
          x.rest (e ∷ h)
          (subst (λ (steps : List Step). Led window w k (name_of p) x.since (calls_left p.steps.reasons steps) (e ∷ h))
          (sym (steps_done p work.place is))
          (led_next window w k (name_of p) h e (Of.Finish Well p.steps.reasons) [] x.others x.since (e ∷ h) x.is
          (entry_is window w h e (Of.Finish Well p.steps.reasons) good.legal by call) x.aside refl)) in
          let one : IsSync window k z x.moment y.before (e ∷ h) = record {
            worker = w;
            cron = y.seen;
            ready = y.ready;
            read = x.read;
            reads = x.reads;
            plan = p;
            decides = x.decides;
            at = x.at;
            zone = x.zone;
            said = x.said;
            free = x.free;
            works = did;
          } in
          between none (x.moment ∷ y.moments) (x.on, y.on) (later (instant_of x.moment) x.upto)
          (y.before, e ∷ h, [], y.synced, one, tt, refl)
          (p.steps.next, over_now window e h w k work p.steps.reasons good.legal by at is call, x.next)
          (λ d. record {
            prompt = ((x.past d).quiet, (x.past d).prompt);
            quiet = λ t a c. let l = still_paused d in absurd (omega (arith, a, c, l));
          })
        where
          none : IsFree k (e ∷ h)
          none c f = here (c.number == w) refl
            where
              here : (t : Bool) → (c.number == w) ≡ t → ⊥
              here true n = cc (sym sits ∙ ap (sync (e ∷ h)) (sym (eqb-true c.number w n)) ∙ f.sync)
              here false n =
                  let number : e.caller.number ≡ w = ap (λ (j : Caller). j.number) by in
                  let was : sync h c.number ≡ Some (in_flight k f.phase) =
                  sym (same_sync c.number (ap (λ (j : ℕ). c.number == j) number ∙ n)) ∙ f.sync in
                  let same : c.number ≡ w = one_holder window h old.legal c.number w (in_flight k f.phase)
                  (in_flight k (Works work)) was at refl in
                  cc (sym n ∙ ap (λ (j : ℕ). j == w) same ∙ same_nat w)

      -- What the worker's own call leads to.
      working_own : e.caller ≡ worker w → (f : Holds h k e.caller) → f.phase ≡ Works work
          → Moves k (Works work) e.call (sync (e ∷ h) w) → Going (e ∷ h)
      working_own by f in_work (goes_on other n phase is call sits) =
          let same : other ≡ work = cc (sym phase) in
          steps_on by n (subst (λ (j : Work). step_at j.plan.steps j.place ≡ Some n) same is) call
          (subst (λ (j : Work). sync (e ∷ h) w ≡ Some (in_flight k (further j))) same sits)
      working_own by f in_work (ends other reasons phase is call sits) =
          let same : other ≡ work = cc (sym phase) in
          let well : reasons ≡ p.steps.reasons =
          subst (EndsWell (Of.Finish Well reasons)) in_work
          (subst (λ (c : Call). EndsWell c f.phase) call (keeps.ends f)) in
          ends_it by (subst (λ (j : Work). step_at j.plan.steps j.place ≡ None) same is)
          (call ∙ ap (λ (rs : List Reason). Of.Finish Well rs) well) sits
      working_own by f in_work (gives_up now reasons call sits) =
          absurd (subst (λ (c : Call). EndsWell c f.phase) call (keeps.ends f))
      working_own by f in_work (sees c phase call sits) = absurd (cc phase)
      working_own by f in_work (lists c js phase call sits) = absurd (cc phase)
      working_own by f in_work (checks c js ks phase call sits) = absurd (cc phase)
      working_own by f in_work (starts c js ks plan v phase call rests sits) = absurd (cc phase)

      from_working : Going (e ∷ h)
      from_working = by (is_caller w e.caller)
        where
          by : (e.caller ≡ worker w) ⊎ (e.caller ≢ worker w) → Going (e ∷ h)
          by (inl own) =
              let f : Holds h k e.caller = record {
                role = ap (λ (c : Caller). c.role) own;
                phase = Works work;
                sync = ap (λ (c : Caller). sync h c.number) own ∙ at;
              } in
              working_own own f refl (moves window h e w k (Works work) good.legal own at (keeps.accepted f))
          by (inr not) =
              let o = others_leave w (Works work) at not in
              working w work o.0 y (record {
                read = x.read;
                reads = x.reads;
                decides = x.decides;
                moment = x.moment;
                at = x.at;
                on = x.on;
                upto = later (instant_of x.moment) x.upto;
                past = x.past;
                paused = still_paused;
                next = x.next;
                zone = x.zone;
                said = x.said;
                free = x.free;
                name = x.name;
                others = e ∷ x.others;
                since = x.since;
                is = ap (λ (g : List Told). e ∷ g) x.is;
                aside = aside_on w (name_of p) x.others x.since x.is not (o.1 (name_of p) x.name) x.aside;
                rest = x.rest;
              })

    -- One entry more.
    one_more : Going h → Going (e ∷ h)
    one_more (between free ms on upto y waits past) = from_between free ms on upto y waits past
    one_more (reading w p is at y upto past x) = from_reading w p at y upto past x is
    one_more (working w work at y x) = from_working w work at y x

  -- All of them.
  all_going : IsFree k start → looked_upto cron [] ≤ clock start → (D → clock start ≤ looked_upto cron [] + 60)
      → (more : List Told) → Good window (more ++ start) → KeepApart window k cron z clock more start
      → (D → KeepUp k cron clock more start) → (D → clock (more ++ start) ≤ looked_upto cron [] + reach)
      → Going (more ++ start)
  all_going free low soon [] good keep up within =
      between free [] tt low ([], tt, refl) ([], refl, tt)
      (λ d. record { prompt = tt; quiet = λ t a c. let l = soon d in absurd (omega (arith, a, c, l)) })
  all_going free low soon (e ∷ es) good keep up within =
      let before : D → clock (es ++ start) ≤ looked_upto cron [] + reach =
      λ d. (let l = within d in let on = back e (es ++ start) in omega (arith, l, on)) in
      one_more e (es ++ start) good keep.0 (λ d. (up d).0) before
      (all_going free low soon es (earlier window (e ∷ []) (es ++ start) good) keep.1 (λ d. (up d).1) before)

  -- Where nobody holds the key, the last sync is over.
  at_end : (g : List Told) → IsFree k g → Going g → HaveSynced window k cron z (clock g) start g
  at_end g free (between f ms on upto y waits past) =
      record { moments = ms; on = on; upto = upto; synced = y }
  at_end g free (reading w p is at y upto past x) =
      absurd (free (worker w) (record { role = refl; phase = p; sync = at }))
  at_end g free (working w work at y x) =
      absurd (free (worker w) (record { role = refl; phase = Works work; sync = at }))

  -- And where no sync is awaited from a time on that has come, they kept up.
  kept_up : D → (g : List Told) → IsFree k g → ((t : ℕ) → IsAwaited k cron start g t → clock g < t)
      → clock g ≤ looked_upto cron [] + reach → Going g → HaveKeptUp window k cron s z (clock g) start g
  kept_up d g free ahead within (between f ms on upto y waits past) = record {
    syncs = record { moments = ms; on = on; upto = upto; synced = y };
    prompt = (past d).prompt;
    quiet = caught ms g (clock g) on waits ahead within;
  }
  kept_up d g free ahead within (reading w p is at y upto past x) =
      absurd (free (worker w) (record { role = refl; phase = p; sync = at }))
  kept_up d g free ahead within (working w work at y x) =
      absurd (free (worker w) (record { role = refl; phase = Works work; sync = at }))

-- For syncs_law: entries that keep to that are whole syncs, and what others call.
pub syncs_go_on : SyncsGoOn
syncs_go_on window start more k cron s z clock short legal planned b free over back low keep =
    at_end window start k cron s z clock ⊥ back b (more ++ start) over
    (all_going window start k cron s z clock ⊥ back b free low (λ d. absurd d) more
    (record { short = short; legal = legal; planned = planned }) keep (λ d. absurd d) (λ d. absurd d))

-- For keeping_up_law: where the clock goes on only when all is done that was due, they keep up with it.
pub syncs_keep_up : SyncsKeepUp
syncs_keep_up window start more k cron s z clock short legal planned b free over back low soon keep up ahead within =
    kept_up window start k cron s z clock (Unit {0}) back b tt (more ++ start) over ahead within
    (all_going window start k cron s z clock (Unit {0}) back b free low (λ d. soon) more
    (record { short = short; legal = legal; planned = planned }) keep (λ d. up) (λ d. within))
