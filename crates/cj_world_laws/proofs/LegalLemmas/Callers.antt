-- Accepted calls of a sync are a worker's, so that numbers alone tell workers apart.
use Rattle.std.proofs.Common.{◌≡◌, ℕ, ◌==◌, Bool, true, false, ◌&&◌, List, [], ◌∷◌, refl, sym, ap, ◌∙◌}
use Rattle.std.specs.Prelude.{◌≢◌, Option, None, Result, Ok, Err, if◌then◌else◌}
use Rattle.cj_base.specs.declared.refusal.Refusal.{Refusal}
use Rattle.cj_store.specs.Content.{Content}
use Rattle.cj_calls.specs.declared.caller.Caller.{Caller}
use Rattle.cj_calls.specs.declared.caller.Role.{Role}
use Rattle.cj_calls.specs.declared.caller.Role.TheVariants.{User, Runner, Informer, Worker}
use Rattle.cj_calls.specs.declared.call.Call.{Call}
use Rattle.cj_calls.specs.declared.call.Call.TheVariants as Of
use Rattle.cj_calls.specs.declared.reply.Reply.{Reply}
use Rattle.cj_calls.specs.Rows.{Told}
use Rattle.cj_state.specs.declared.phases.sync.InFlight.{InFlight}
use Rattle.cj_state.specs.declared.state.State.{State}
use Rattle.cj_state.specs.Step.{step_of, by_role, by_user, by_runner, by_informer}
use Rattle.cj_state.specs.Legal.{IsLegal, state_of}
use Rattle.cj_world_laws.specs.legal.InFlightSyncs.{accepted, sync, sync_after}
use Rattle.cj_world_laws.specs.legal.Callers.{is_of_sync, WorkersAlone, same_role, same_caller, sync_by, claim_by, worker, CallerLaw}
use Rattle.cj_world_laws.specs.once.Once.{Claimed, claim_after, claim_of, is_ok}

-- ---- who makes the calls of a sync

-- A user's call of a sync is refused.
of_user : (s : State) (call : Call) → is_of_sync call ≡ true → is_ok (by_user s call).answer ≡ false
of_user s Of.Take i = refl
of_user s Of.SeeCron i = refl
of_user s Of.SeeJobs i = refl
of_user s Of.SeeActive i = refl
of_user s (Of.Claim p) i = refl
of_user s Of.DropNext i = refl
of_user s Of.MakeNext i = refl
of_user s Of.SetStatus i = refl
of_user s (Of.Finish end rs) i = refl
of_user s call i = absurd (cc i)

-- A runner's call of a sync is refused.
of_runner : (s : State) (call : Call) → is_of_sync call ≡ true → is_ok (by_runner s call).answer ≡ false
of_runner s Of.Take i = refl
of_runner s Of.SeeCron i = refl
of_runner s Of.SeeJobs i = refl
of_runner s Of.SeeActive i = refl
of_runner s (Of.Claim p) i = refl
of_runner s Of.DropNext i = refl
of_runner s Of.MakeNext i = refl
of_runner s Of.SetStatus i = refl
of_runner s (Of.Finish end rs) i = refl
of_runner s call i = absurd (cc i)

-- An informer's call of a sync is refused.
of_informer : (s : State) (call : Call) → is_of_sync call ≡ true → is_ok (by_informer s call).answer ≡ false
of_informer s Of.Take i = refl
of_informer s Of.SeeCron i = refl
of_informer s Of.SeeJobs i = refl
of_informer s Of.SeeActive i = refl
of_informer s (Of.Claim p) i = refl
of_informer s Of.DropNext i = refl
of_informer s Of.MakeNext i = refl
of_informer s Of.SetStatus i = refl
of_informer s (Of.Finish end rs) i = refl
of_informer s call i = absurd (cc i)

-- An accepted call of a sync, which isn't refused, has a worker's role.
by_workers : (s : State) (r : Role) (w : ℕ) (call : Call) → is_of_sync call ≡ true
    → is_ok (by_role s r w call).answer ≡ true → r ≡ Worker
by_workers s Worker w call i ok = refl
by_workers s User w call i ok = absurd (let other = of_user s call i in cc (sym ok ∙ other))
by_workers s Runner w call i ok = absurd (let other = of_runner s call i in cc (sym ok ∙ other))
by_workers s Informer w call i ok = absurd (let other = of_informer s call i in cc (sym ok ∙ other))

-- In any state who is answered a call of a sync is a worker.
worker_called : (s : State) (c : Caller) (call : Call) → is_of_sync call ≡ true → is_ok (step_of s c call).answer ≡ true
    → c.role ≡ Worker
unfolding step_of
worker_called s c call i ok = by_workers s c.role c.number call i ok

-- In a legal history each accepted call of a sync is a worker's.
workers_alone : (window : ℕ) (h : List Told) → IsLegal window h → WorkersAlone h
workers_alone window [] l = tt
workers_alone window (e ∷ h) l = (
  λ i ok. worker_called (state_of window h) e.caller e.call i (ap is_ok (sym l.0) ∙ ok),
  workers_alone window h l.2,
)

-- ---- what other calls leave

-- An answer to a call that is none of a sync says nothing of a sync.
sync_kept : (o : Option InFlight) (call : Call) (r : Reply) → is_of_sync call ≡ false → accepted o call r ≡ o
sync_kept o Of.Take r i = absurd (cc i)
sync_kept o Of.SeeCron r i = absurd (cc i)
sync_kept o Of.SeeJobs r i = absurd (cc i)
sync_kept o Of.SeeActive r i = absurd (cc i)
sync_kept o (Of.Claim p) r i = absurd (cc i)
sync_kept o Of.DropNext r i = absurd (cc i)
sync_kept o Of.MakeNext r i = absurd (cc i)
sync_kept o Of.SetStatus r i = absurd (cc i)
sync_kept o (Of.Finish end rs) r i = absurd (cc i)
sync_kept o call r i = refl

-- A refused call leaves the claim as it was.
claim_refused : (s : Content) (call : Call) (x : Refusal) (b : Option Claimed) → claim_after s call (Err x) b ≡ b
claim_refused s (Of.Claim p) x b = refl
claim_refused s call x b = refl

-- A call that is none of a sync leaves the claim as it was.
claim_kept : (s : Content) (call : Call) (a : Result Reply Refusal) (b : Option Claimed) → is_of_sync call ≡ false
    → claim_after s call a b ≡ b
claim_kept s (Of.Claim p) a b i = absurd (cc i)
claim_kept s call a b i = refl

-- an entry that leaves each sync and each claim as it was
pub record Idle (s : Content) (call : Call) (a : Result Reply Refusal) : Type 0 where
  pub syncs : (o : Option InFlight) → sync_after o call a ≡ o
  pub claims : (b : Option Claimed) → claim_after s call a b ≡ b

-- For idle: an entry whose caller is no worker, by whether its call is one of a sync and its
-- answer.
idle_by : (s : Content) (call : Call) (a : Result Reply Refusal) (b : Bool) → is_of_sync call ≡ b
    → (b ≡ true → is_ok a ≡ true → ⊥) → Idle s call a
idle_by s call (Err x) b i other = record { syncs = λ o. refl; claims = claim_refused s call x }
idle_by s call (Ok r) true i other = absurd (other refl refl)
idle_by s call (Ok r) false i other = record {
  syncs = λ o. sync_kept o call r i;
  claims = λ c. claim_kept s call (Ok r) c i;
}

-- An entry of a legal history whose caller is no worker leaves each sync and each claim as it was.
pub idle : (window : ℕ) (e : Told) (h : List Told) → IsLegal window (e ∷ h) → e.caller.role ≢ Worker
    → Idle (state_of window h).store e.call e.answer
idle window e h l other = idle_by (state_of window h).store e.call e.answer (is_of_sync e.call) refl
    (λ i ok. other (worker_called (state_of window h) e.caller e.call i (ap is_ok (sym l.0) ∙ ok)))

-- ---- by the caller and by the number

-- Roles that the test takes for the same are the same.
role_is : (a b : Role) → same_role a b ≡ true → a ≡ b
role_is User User e = refl
role_is Runner Runner e = refl
role_is Informer Informer e = refl
role_is Worker Worker e = refl
role_is a b e = absurd (cc e)

-- Where two tests hold, the second does.
second : (a b : Bool) → (a && b) ≡ true → b ≡ true
second true b e = e
second false b e = absurd (cc e)

module _ {X : Type 0} (f : X → X) where
  -- A worker's value by its caller is the one by its number, where entries of others change none.
  as_numbered : (b : Bool) (r : Role) (x y : X) → x ≡ y → (r ≢ Worker → (z : X) → f z ≡ z)
      → (if b && same_role Worker r then f x else x) ≡ (if b then f y else y)
  as_numbered true Worker x y e other = ap f e
  as_numbered true User x y e other = e ∙ sym (other (λ i. cc i) y)
  as_numbered true Runner x y e other = e ∙ sym (other (λ i. cc i) y)
  as_numbered true Informer x y e other = e ∙ sym (other (λ i. cc i) y)
  as_numbered false r x y e other = e

  -- The value of a caller that is no worker stays what it was.
  as_before : (b : Bool) (x y : X) → x ≡ y → (b ≡ true → (z : X) → f z ≡ z) → (if b then f x else x) ≡ y
  as_before true x y e other = other refl x ∙ e
  as_before false x y e other = e

-- A caller of the same role as one that is no worker is none.
none_either : (c d : Caller) → c.role ≢ Worker → same_caller c d ≡ true → d.role ≢ Worker
none_either c d other same is = other (role_is c.role d.role
    (second (c.number == d.number) (same_role c.role d.role) same) ∙ is)

-- A worker's sync by its caller is the one by its number.
syncs_by : (window : ℕ) (h : List Told) → IsLegal window h → (w : ℕ) → sync_by h (worker w) ≡ sync h w
syncs_by window [] l w = refl
syncs_by window (e ∷ h) l w =
    as_numbered (λ (o : Option InFlight). sync_after o e.call e.answer) (w == e.caller.number) e.caller.role
    (sync_by h (worker w)) (sync h w)
    (syncs_by window h l.2 w) (λ other. (idle window e h l other).syncs)

-- A worker's claim by its caller is the one by its number.
claims_by : (window : ℕ) (h : List Told) → IsLegal window h → (w : ℕ)
    → claim_by window h (worker w) ≡ claim_of window h w
claims_by window [] l w = refl
claims_by window (e ∷ h) l w =
    as_numbered (claim_after (state_of window h).store e.call e.answer) (w == e.caller.number) e.caller.role
    (claim_by window h (worker w)) (claim_of window h w)
    (claims_by window h l.2 w) (λ other. (idle window e h l other).claims)

-- A caller that is no worker has no sync.
no_sync : (window : ℕ) (h : List Told) → IsLegal window h → (c : Caller) → c.role ≢ Worker → sync_by h c ≡ None
no_sync window [] l c other = refl
no_sync window (e ∷ h) l c other =
    as_before (λ (o : Option InFlight). sync_after o e.call e.answer) (same_caller c e.caller) (sync_by h c) None
    (no_sync window h l.2 c other)
    (λ same. (idle window e h l (none_either c e.caller other same)).syncs)

-- A caller that is no worker has no claim.
no_claim : (window : ℕ) (h : List Told) → IsLegal window h → (c : Caller) → c.role ≢ Worker → claim_by window h c ≡ None
no_claim window [] l c other = refl
no_claim window (e ∷ h) l c other =
    as_before (claim_after (state_of window h).store e.call e.answer) (same_caller c e.caller) (claim_by window h c)
    None
    (no_claim window h l.2 c other) (λ same. (idle window e h l (none_either c e.caller other same)).claims)

-- For caller_law: in a legal history a worker's sync and claim are those of its number, and nobody
-- else has any.
pub callers_apart : CallerLaw
callers_apart window h l = record {
  alone = workers_alone window h l;
  syncs = syncs_by window h l;
  claims = claims_by window h l;
  none_in_flight = no_sync window h l;
  claimless = no_claim window h l;
}
