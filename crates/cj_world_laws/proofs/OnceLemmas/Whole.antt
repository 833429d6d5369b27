-- Each legal history has each time once, and what was claimed under Forbid or Replace is made
-- alone.
use Rattle.std.proofs.Common.{◌≡◌, ℕ, ◌+◌, ◌≤◌, ◌==◌, Bool, true, false, cond, List, [], ◌∷◌, length, Option, None, refl, ap, sym, subst, ◌∙◌, arith}
use Rattle.std.specs.Prelude.{Result, Err}
use Rattle.std.specs.FinMap as map
use Rattle.std.specs.Ordering.{nat_cmp}
use Rattle.cj_base.specs.declared.refusal.Refusal.{Refusal}
use Rattle.cj_base.specs.declared.refusal.Refusal.TheVariants.{NotPermitted}
use Rattle.cj_types.specs.Keys.{place_cmp}
use Rattle.cj_types.specs.Uids.{last_uid}
use Rattle.cj_calls.specs.Rows.{Told}
use Rattle.cj_calls.specs.declared.caller.Caller.{Caller}
use Rattle.cj_calls.specs.declared.caller.Role.{Role}
use Rattle.cj_calls.specs.declared.caller.Role.TheVariants.{User, Runner, Informer, Worker}
use Rattle.cj_calls.specs.declared.call.Call.{Call}
use Rattle.cj_calls.specs.declared.call.Call.TheVariants as Of
use Rattle.cj_calls.specs.declared.reply.Reply.{Reply}
use Rattle.cj_state.specs.declared.state.State.{State}
use Rattle.cj_state.specs.WorkerCalls.{Handled, refused, make_next}
use Rattle.cj_state.specs.Step.{by_user, by_runner, by_informer, by_worker, by_role, step_of, start}
use Rattle.cj_state.specs.Legal.{state_of, IsLegal, IsPlanned, ArePlanned}
use Rattle.cj_decide.specs.laws.Fits.{runs, is_strict, Fits}
use Rattle.cj_decide.proofs.LawsLemmas.Fitting.{decided_fits}
use Rattle.std.specs.List.{AllByRecursion}
use Rattle.cj_world_laws.specs.once.Once.{Claimed, claim_after, claim_of, is_ok, makes_with, is_making, with_made, makes, Once, Alone, OnceAndAlone}
use Rattle.cj_world_laws.proofs.OnceLemmas.Lists.{weaker}
use Rattle.cj_world_laws.proofs.OnceLemmas.Facts.{Homes, Inv}
use Rattle.cj_world_laws.proofs.OnceLemmas.Frames.{Claims, same_claims}
use Rattle.cj_world_laws.proofs.OnceLemmas.Calls.{Now, Plain, stays, user_plain, runner_plain, informer_plain, take_plain, see_cron_plain, see_jobs_plain, see_active_plain, finish_plain}
use Rattle.cj_world_laws.proofs.OnceLemmas.Steps.{same_branches, claim_kept, drop_plain, status_plain}
use Rattle.cj_world_laws.proofs.OnceLemmas.Make.{MakeKept, make_kept, Rests, make_rests}

-- each plan that comes in is such as the laws ask for
abbrev pub DoesFit : Call → Type 0
DoesFit (Of.Claim p) = Fits p
DoesFit _ = Unit {0}

abbrev pub DoFit : List Told → Type 0
DoFit h = AllByRecursion (λ e. DoesFit e.call) h

-- Where the plan of a call, if it has one, is decided, it is such as the laws ask for.
does_fit : (call : Call) → IsPlanned call → DoesFit call
does_fit (Of.Claim p) h = decided_fits p h
does_fit call h = tt

-- Where all plans of a history are decided, they are such as the laws ask for.
pub do_fit : (h : List Told) → ArePlanned h → DoFit h
do_fit [] a = tt
do_fit (e ∷ h) a = (does_fit e.call a.0, do_fit h a.1)

-- what holds after an entry
abbrev Kept : State → List Claimed → Claims → ℕ → Call → Handled → Type 0
Kept s ms cl n call r =
    (home : Homes) × Inv home r.state.store r.state.queue.row r.state.syncs
    (with_made (makes_with call r.answer) (cl n) ms)
    (λ v. cond (v == n) (claim_after s.store call r.answer (cl v)) (cl v))
    × (r.state.store.uids ≤ s.store.uids + 1)

module _ {s : State} {ms : List Claimed} {cl : Claims} {home : Homes} where
  -- no claim and no making
  plain : Now s ms cl home → (n : ℕ) (call : Call) (r : Handled) → makes_with call r.answer ≡ false
      → ((o : Option Claimed) → o ≡ claim_after s.store call r.answer o) → Plain s ms cl r → Kept s ms cl n call r
  plain now n call r e c f = (
    f.0,
    subst (λ (b : Bool). Inv f.0 r.state.store r.state.queue.row r.state.syncs (with_made b (cl n) ms)
        (λ v. cond (v == n) (claim_after s.store call r.answer (cl v)) (cl v))) (sym e)
        (same_claims f.0 r.state.store r.state.queue.row r.state.syncs ms cl _
        (λ v. same_branches (v == n) (cl v) ∙ ap (λ o. cond (v == n) o (cl v)) (c (cl v))) f.1),
    f.2,
  )

  -- What a MakeNext keeps is what holds after its entry, as it leaves the last claims.
  made : Now s ms cl home → (n : ℕ) (r : Handled) → MakeKept s ms cl n r → Kept s ms cl n Of.MakeNext r
  made now n r f = (
    f.0,
    same_claims f.0 r.state.store r.state.queue.row r.state.syncs (with_made (is_ok r.answer) (cl n) ms) cl _
        (λ v. same_branches (v == n) (cl v)) f.1,
    f.2,
  )

module _ {s : State} {ms : List Claimed} {cl : Claims} {home : Homes} where
  -- a call that the role may not make
  not_made : Now s ms cl home → (n : ℕ) (call : Call) → Kept s ms cl n call (refused s NotPermitted)
  not_made f n Of.MakeNext = plain f n Of.MakeNext (refused s NotPermitted) refl (λ o. refl)
      (stays f (Err NotPermitted))
  not_made f n (Of.Claim p) = plain f n (Of.Claim p) (refused s NotPermitted) refl (λ o. refl)
      (stays f (Err NotPermitted))
  not_made f n call = plain f n call (refused s NotPermitted) refl (λ o. refl) (stays f (Err NotPermitted))

  -- After a user's call the facts hold of what was made and claimed by then.
  user_kept : Now s ms cl home → s.store.uids + 1 ≤ last_uid → (n : ℕ) (call : Call)
      → Kept s ms cl n call (by_user s call)
  user_kept f b n Of.MakeNext = not_made f n Of.MakeNext
  user_kept f b n (Of.Claim p) = not_made f n (Of.Claim p)
  user_kept f b n call = plain f n call (by_user s call) refl (λ o. refl) (user_plain f b call)

  -- After a runner's call the facts hold of what was made and claimed by then.
  runner_kept : Now s ms cl home → s.store.uids + 1 ≤ last_uid → (n : ℕ) (call : Call)
      → Kept s ms cl n call (by_runner s call)
  runner_kept f b n Of.MakeNext = not_made f n Of.MakeNext
  runner_kept f b n (Of.Claim p) = not_made f n (Of.Claim p)
  runner_kept f b n call = plain f n call (by_runner s call) refl (λ o. refl) (runner_plain f b call)

  -- After an informer's call the facts hold of what was made and claimed by then.
  informer_kept : Now s ms cl home → (n : ℕ) (call : Call) → Kept s ms cl n call (by_informer s call)
  informer_kept f n Of.MakeNext = not_made f n Of.MakeNext
  informer_kept f n (Of.Claim p) = not_made f n (Of.Claim p)
  informer_kept f n call = plain f n call (by_informer s call) refl (λ o. refl) (informer_plain f call)

  -- After a worker's call the facts hold of what was made and claimed, if its plan, if any, fits.
  worker_kept : Now s ms cl home → s.store.uids + 1 ≤ last_uid → (n : ℕ) (call : Call) → DoesFit call
      → Kept s ms cl n call (by_worker s n call)
  worker_kept f b n Of.Take p = plain f n Of.Take (by_worker s n Of.Take) refl (λ o. refl) (take_plain f n)
  worker_kept f b n Of.SeeCron p = plain f n Of.SeeCron (by_worker s n Of.SeeCron) refl (λ o. refl)
      (see_cron_plain f b n)
  worker_kept f b n Of.SeeJobs p = plain f n Of.SeeJobs (by_worker s n Of.SeeJobs) refl (λ o. refl)
      (see_jobs_plain f b n)
  worker_kept f b n Of.SeeActive p = plain f n Of.SeeActive (by_worker s n Of.SeeActive) refl (λ o. refl)
      (see_active_plain f b n)
  worker_kept f b n (Of.Claim x) p = claim_kept f b n x p
  worker_kept f b n Of.DropNext p = plain f n Of.DropNext (by_worker s n Of.DropNext) refl (λ o. refl)
      (drop_plain f b n)
  worker_kept f b n Of.MakeNext p = made f n (make_next s n) (make_kept f b n)
  worker_kept f b n Of.SetStatus p = plain f n Of.SetStatus (by_worker s n Of.SetStatus) refl (λ o. refl)
      (status_plain f b n)
  worker_kept f b n (Of.Finish end reasons) p = plain f n (Of.Finish end reasons)
      (by_worker s n (Of.Finish end reasons)) refl (λ o. refl) (finish_plain f n end)
  worker_kept f b n call p = not_made f n call

  -- For step_kept: the facts hold after the call of a caller of whatever role.
  role_kept : Now s ms cl home → s.store.uids + 1 ≤ last_uid → (role : Role) (n : ℕ) (call : Call) → DoesFit call
      → Kept s ms cl n call (by_role s role n call)
  role_kept f b User n call p = user_kept f b n call
  role_kept f b Runner n call p = runner_kept f b n call
  role_kept f b Informer n call p = informer_kept f n call
  role_kept f b Worker n call p = worker_kept f b n call p

  -- In any state in which the facts hold, they hold after whatever call whoever makes.
  step_kept : Now s ms cl home → s.store.uids + 1 ≤ last_uid → (caller : Caller) (call : Call) → DoesFit call
      → Kept s ms cl caller.number call (step_of s caller call)
  unfolding step_of
  step_kept f b caller call p = role_kept f b caller.role caller.number call p

-- ---- every legal history

-- Before the first call all facts hold, as there is no object, no key in the line and no sync.
at_start : (window : ℕ) → Inv (λ u. record { namespace = []; name = [] }) (start window).store (start window).queue.row
    (start window).syncs [] (λ w. None)
at_start window = record {
  store = record {
    crons = λ k c at. absurd (cc (sym (map.get-empty place_cmp k) ∙ at));
    keys = λ q j at. absurd (cc (sym (map.get-empty place_cmp q) ∙ at));
    owned = λ q j o at e. absurd (cc (sym (map.get-empty place_cmp q) ∙ at));
    made = tt;
  };
  line = tt;
  held = λ w x at. absurd (cc (sym (map.get-empty nat_cmp w) ∙ at));
  apart = λ v w a b at e k. absurd (cc (sym (map.get-empty nat_cmp v) ∙ at));
  facts = λ w x at. absurd (cc (sym (map.get-empty nat_cmp w) ∙ at));
}

pub record Always (window : ℕ) (h : List Told) : Type 0 where
  pub home : Homes
  pub now : Now (state_of window h) (makes window h) (claim_of window h) home
  pub few : (state_of window h).store.uids ≤ length h

-- After each legal history of such plans all facts hold, of the store, the row and the syncs.
pub always : (window : ℕ) (h : List Told) → length h ≤ last_uid → IsLegal window h → DoFit h → Always window h
always window [] short legal fit = record {
  home = λ u. record { namespace = []; name = [] };
  now = record { inv = at_start window };
  few = omega arith;
}
always window (e ∷ h) short legal fit =
    let f = always window h (omega arith) legal.2 fit.1 in
    let n = f.few in
    let k = step_kept f.now (omega arith) e.caller e.call fit.0 in
    record {
      home = k.0;
      now = record {
        inv = subst (λ (a : Result Reply Refusal). Inv k.0 (state_of window (e ∷ h)).store
            (state_of window (e ∷ h)).queue.row (state_of window (e ∷ h)).syncs
            (with_made (makes_with e.call a) (claim_of window h e.caller.number) (makes window h))
            (λ v. cond (v == e.caller.number) (claim_after (state_of window h).store e.call a (claim_of window h v))
            (claim_of window h v))) (sym legal.0) k.1;
      };
      few = let x = k.2 in omega arith;
    }

-- what is made
no_truth : {A : Type 0} → false ≡ true → A
no_truth e = absurd (cc e)

module _ {s : State} {ms : List Claimed} {cl : Claims} {home : Homes} where
  -- A worker's call that is an accepted making rests on the worker's last claim.
  worker_rests : Now s ms cl home → (n : ℕ) (call : Call) → makes_with call (by_worker s n call).answer ≡ true
      → Rests s ms (cl n)
  worker_rests f n Of.MakeNext ok = make_rests f n ok
  worker_rests f n call ok = no_truth ok

  -- For role_rests: a user's call is no accepted making.
  user_rests : Now s ms cl home → (n : ℕ) (call : Call) → makes_with call (by_user s call).answer ≡ true
      → Rests s ms (cl n)
  user_rests f n Of.MakeNext ok = no_truth ok
  user_rests f n call ok = no_truth ok

  -- For role_rests: a runner's call is no accepted making.
  runner_rests : Now s ms cl home → (n : ℕ) (call : Call) → makes_with call (by_runner s call).answer ≡ true
      → Rests s ms (cl n)
  runner_rests f n Of.MakeNext ok = no_truth ok
  runner_rests f n call ok = no_truth ok

  -- For role_rests: an informer's call is no accepted making.
  informer_rests : Now s ms cl home → (n : ℕ) (call : Call) → makes_with call (by_informer s call).answer ≡ true
      → Rests s ms (cl n)
  informer_rests f n Of.MakeNext ok = no_truth ok
  informer_rests f n call ok = no_truth ok

  -- For step_rests: an accepted making by a caller of whatever role rests on its last claim.
  role_rests : Now s ms cl home → (role : Role) (n : ℕ) (call : Call) → makes_with call (by_role s role n call).answer
      ≡ true → Rests s ms (cl n)
  role_rests f User n call ok = user_rests f n call ok
  role_rests f Runner n call ok = runner_rests f n call ok
  role_rests f Informer n call ok = informer_rests f n call ok
  role_rests f Worker n call ok = worker_rests f n call ok

  -- For entry_rests: whoever calls, an accepted making rests on the caller's last claim.
  step_rests : Now s ms cl home → (caller : Caller) (call : Call) → makes_with call (step_of s caller call).answer
      ≡ true → Rests s ms (cl caller.number)
  unfolding step_of
  step_rests f caller call ok = role_rests f caller.role caller.number call ok

-- A making that enters a legal history rests on a claim of a later time, and is alone if it must.
entry_rests : (window : ℕ) (h : List Told) (e : Told) → length (e ∷ h) ≤ last_uid → IsLegal window (e ∷ h)
    → DoFit (e ∷ h) → is_making e ≡ true → Rests (state_of window h) (makes window h)
    (claim_of window h e.caller.number)
entry_rests window h e short legal fit ok = step_rests (always window h (omega arith) legal.2 fit.1).now e.caller e.call
    (subst (λ (a : Result Reply Refusal). makes_with e.call a ≡ true) legal.0 ok)

-- What can't be true is false.
none_runs : (b : Bool) → (b ≡ true → ⊥) → b ≡ false
none_runs true f = absurd (f refl)
none_runs false f = refl

-- For both: each accepted making rests on a claim of an owner and a time that no earlier one has.
once : (window : ℕ) (h : List Told) → length h ≤ last_uid → IsLegal window h → DoFit h → Once window h
once window [] short legal fit = tt
once window (e ∷ h) short legal fit = (
  λ ok. let g = entry_rests window h e short legal fit ok in
      (g.m, g.claimed, weaker _ _ (λ x f o t. let l = f o in absurd (omega arith)) (makes window h) g.above),
  once window h (omega arith) legal.2 fit.1,
)

-- For both: what was claimed under Forbid or Replace is made beside no unfinished Job of its owner.
alone : (window : ℕ) (h : List Told) → length h ≤ last_uid → IsLegal window h → DoFit h → Alone window h
alone window [] short legal fit = tt
alone window (e ∷ h) short legal fit = (
  λ ok m is strict q j at.
      let g = entry_rests window h e short legal fit ok in
      let same : g.m ≡ m = cc (sym g.claimed ∙ is) in
      none_runs (runs m.owner j) (λ r. g.alone (ap (λ (z : Claimed). is_strict z.policy) same ∙ strict) q j at
      (ap (λ (z : Claimed). runs z.owner j) same ∙ r)),
  alone window h (omega arith) legal.2 fit.1,
)

-- For once_law: in a legal history each time is there once, and what must be alone is alone.
pub both : OnceAndAlone
both window h short legal planned = (
  once window h short legal (do_fit h planned),
  alone window h short legal (do_fit h planned),
)
