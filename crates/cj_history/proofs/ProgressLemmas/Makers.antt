-- Who makes a Job sits at the key of its CronJob, and claimed a time above all that were made for
-- it.
use Rattle.std.proofs.Common.{◌≡◌, inl, inr, ℕ, ◌+◌, ◌<◌, ◌≤◌, ◌==◌, Bool, true, false, cond, List, [], ◌∷◌, ◌++◌, length, Option, Some, None, refl, sym, ap, subst, ◌∙◌, arith}
use Rattle.std.specs.Prelude.{Result}
use Rattle.std.specs.FinMap as map
use Rattle.std.proofs.lemmas.Bool.{eqb-true}
use Rattle.cj_base.specs.declared.refusal.Refusal.{Refusal}
use Rattle.cj_types.specs.Keys.{Place}
use Rattle.cj_types.specs.Uids.{last_uid}
use Rattle.cj_types.specs.declared.cron.CronJob.{CronJob}
use Rattle.cj_types.specs.declared.job.JobDraft.{JobDraft}
use Rattle.cj_decide.specs.laws.Fits.{upto}
use Rattle.cj_decide.specs.laws.Laws.{IsIn}
use Rattle.cj_calls.specs.declared.caller.Role.{Role}
use Rattle.cj_calls.specs.declared.caller.Role.TheVariants.{User, Runner, Informer, Worker}
use Rattle.cj_calls.specs.declared.call.Call.{Call}
use Rattle.cj_calls.specs.declared.call.Call.TheVariants as Of
use Rattle.cj_calls.specs.declared.reply.Reply.{Reply}
use Rattle.cj_calls.specs.Rows.{Told}
use Rattle.cj_state.specs.phases.Steps.{Step, drops, makes as makes_job, sets, step_at, left, as_make}
use Rattle.cj_state.specs.declared.phases.sync.Work.{Work}
use Rattle.cj_state.specs.declared.phases.sync.Phase.{Phase}
use Rattle.cj_state.specs.declared.phases.sync.Phase.TheVariants.{Works}
use Rattle.cj_state.specs.declared.phases.sync.InFlight.{InFlight}
use Rattle.cj_state.specs.declared.state.State.{State}
use Rattle.cj_state.specs.WorkerCalls.{sync_of, by_sync, make_where, make_in, make_next}
use Rattle.cj_state.specs.Step.{step_of, by_role, by_user, by_runner, by_informer, by_worker}
use Rattle.cj_state.specs.Legal.{IsLegal, ArePlanned, state_of}
use Rattle.cj_world_laws.specs.legal.Callers.{is_of_sync}
use Rattle.cj_world_laws.specs.legal.InFlightSyncs.{sync}
use Rattle.cj_world_laws.specs.once.Once.{Claimed, claim_of, is_ok, is_making, makes_with, with_made, makes}
use Rattle.cj_world_laws.proofs.LegalLemmas.Callers.{callers_apart}
use Rattle.cj_world_laws.proofs.LegalLemmas.HeldSyncs.{syncs_agree}
use Rattle.cj_world_laws.proofs.OnceLemmas.Facts.{Homes, EachTime, MakeFact}
use Rattle.cj_world_laws.proofs.OnceLemmas.Frames.{Claims}
use Rattle.cj_world_laws.proofs.OnceLemmas.Calls.{Now}
use Rattle.cj_world_laws.proofs.OnceLemmas.Steps.{work_fact}
use Rattle.cj_world_laws.proofs.OnceLemmas.Whole.{Always, always, do_fit}
use Rattle.cj_history.specs.progress.Every.{times_of, made_for}

-- ---- histories as the laws are about

-- a legal history of decided plans, which isn't longer than there are uids
pub record Good (window : ℕ) (h : List Told) : Type 0 where
  pub short : length h ≤ last_uid
  pub legal : IsLegal window h
  pub planned : ArePlanned h

-- Earlier entries are one too.
pub earlier : (window : ℕ) (es h : List Told) → Good window (es ++ h) → Good window h
earlier window [] h g = g
earlier window (e ∷ es) h g = earlier window es h (record {
  short = (let a = g.short in omega (arith, a));
  legal = g.legal.2;
  planned = g.planned.1;
})

-- In it all facts hold of the store and the syncs.
pub facts : (window : ℕ) (h : List Told) → Good window h → Always window h
facts window h g = always window h g.short g.legal (do_fit h g.planned)

-- ---- who makes

-- the worker sits where it is to make a Job for its claim
pub record Maker (s : State) (ms : List Claimed) (cl : Claims) (home : Homes) (w : ℕ) : Type 0 where
  pub sits : InFlight
  pub at : sync_of s w ≡ Some sits
  pub rest : List Step
  pub draft : JobDraft
  pub fact : MakeFact home s.store ms (cl w) sits.key (makes_job draft ∷ rest) draft

-- A step that tests as the making of a draft is that.
makes_it : (o : Option Step) (d : JobDraft) → as_make o ≡ Some d → o ≡ Some (makes_job d)
makes_it None d e = absurd (cc e)
makes_it (Some (drops x)) d e = absurd (cc e)
makes_it (Some (makes_job x)) d e = let h : x ≡ d = cc e in ap (λ z. Some (makes_job z)) h
makes_it (Some (sets x)) d e = absurd (cc e)

-- What can't be true.
no_truth : {A : Type 0} → false ≡ true → A
no_truth e = absurd (cc e)

module _ {s : State} {ms : List Claimed} {cl : Claims} {home : Homes} where
  -- For phase_makes: an accepted making has a draft as its next step.
  step_makes : Now s ms cl home → (w : ℕ) (x : InFlight) → sync_of s w ≡ Some x → (work : Work) → x.phase ≡ Works work
      → (o : Option JobDraft) → as_make (step_at work.plan.steps work.place) ≡ o
      → is_ok (make_where s w x.key work o).answer ≡ true → Maker s ms cl home w
  step_makes f w x at work e None is ok = no_truth ok
  step_makes f w x at work e (Some d) is ok =
      let fact = work_fact f w x at work e (makes_job d) (makes_it (step_at work.plan.steps work.place) d is) in
      record { sits = x; at = at; rest = left work.plan.steps (work.place + 1); draft = d; fact = fact.make d (inl refl) }

  -- For sync_makes: it is by one who works off a plan.
  phase_makes : Now s ms cl home → (w : ℕ) (x : InFlight) → sync_of s w ≡ Some x → (p : Phase) → x.phase ≡ p
      → is_ok (make_in s w x.key p).answer ≡ true → Maker s ms cl home w
  phase_makes f w x at (Works work) e ok = step_makes f w x at work e (as_make (step_at work.plan.steps work.place))
      refl ok
  phase_makes f w x at p e ok = no_truth ok

  -- For next_makes: it is by one who has a sync.
  sync_makes : Now s ms cl home → (w : ℕ) (o : Option InFlight) → sync_of s w ≡ o
      → is_ok (by_sync s (make_in s w) o).answer ≡ true → Maker s ms cl home w
  sync_makes f w None e ok = no_truth ok
  sync_makes f w (Some x) e ok = phase_makes f w x e x.phase refl ok

  -- For worker_makes: whose MakeNext is accepted is about to make.
  next_makes : Now s ms cl home → (w : ℕ) → is_ok (make_next s w).answer ≡ true → Maker s ms cl home w
  unfolding make_next
  next_makes f w ok = sync_makes f w (sync_of s w) refl ok

  -- For role_makes: so is a worker of which any call is an accepted making.
  worker_makes : Now s ms cl home → (w : ℕ) (call : Call) → makes_with call (by_worker s w call).answer ≡ true
      → Maker s ms cl home w
  worker_makes f w Of.MakeNext ok = next_makes f w ok
  worker_makes f w call ok = no_truth ok

  -- For role_makes: a user's call is no accepted making.
  user_makes : (w : ℕ) (call : Call) → makes_with call (by_user s call).answer ≡ true → Maker s ms cl home w
  user_makes w Of.MakeNext ok = no_truth ok
  user_makes w call ok = no_truth ok

  -- For role_makes: nor is a runner's.
  runner_makes : (w : ℕ) (call : Call) → makes_with call (by_runner s call).answer ≡ true → Maker s ms cl home w
  runner_makes w Of.MakeNext ok = no_truth ok
  runner_makes w call ok = no_truth ok

  -- For role_makes: nor is an informer's.
  informer_makes : (w : ℕ) (call : Call) → makes_with call (by_informer s call).answer ≡ true → Maker s ms cl home w
  informer_makes w Of.MakeNext ok = no_truth ok
  informer_makes w call ok = no_truth ok

  -- For entry_makes: whoever's call is an accepted making is about to make.
  role_makes : Now s ms cl home → (role : Role) (w : ℕ) (call : Call)
      → makes_with call (by_role s role w call).answer ≡ true
      → Maker s ms cl home w
  role_makes f User w call ok = user_makes w call ok
  role_makes f Runner w call ok = runner_makes w call ok
  role_makes f Informer w call ok = informer_makes w call ok
  role_makes f Worker w call ok = worker_makes f w call ok

-- For entry_makes: so is the caller of an entry that is an accepted making.
call_makes : (s : State) (ms : List Claimed) (cl : Claims) (home : Homes) → Now s ms cl home
    → (role : Role) (w : ℕ) (call : Call)
    → makes_with call (step_of s (record { number = w; role = role }) call).answer ≡ true → Maker s ms cl home w
unfolding step_of
call_makes s ms cl home f role w call ok = role_makes f role w call ok

-- An accepted making is an accepted call of a sync.
making_call : (call : Call) (a : Result Reply Refusal) → makes_with call a ≡ true
    → (is_of_sync call ≡ true) × (is_ok a ≡ true)
making_call Of.MakeNext a ok = (refl, ok)
making_call call a ok = no_truth ok

-- what is known of an entry that makes a Job for the CronJob with a uid, which stands at the key:
-- its caller is a worker that sits there, and claimed a time that isn't above the CronJob's last
-- one and is above all that were made
pub record Makes (window : ℕ) (e : Told) (h : List Told) (k : Place) (c : CronJob) (m : Claimed) : Type 0 where
  pub sits : InFlight
  pub held : sync h e.caller.number ≡ Some sits
  pub key : sits.key ≡ k
  pub role : e.caller.role ≡ Worker
  pub last : m.time < upto c.status.last_schedule_time
  pub above : EachTime c.meta.uid (λ t. t < m.time) (makes window h)

-- That is known of it.
entry_makes : (window : ℕ) (e : Told) (h : List Told) → Good window (e ∷ h) → (k : Place) (c : CronJob)
    → map.get (state_of window h).store.crons k ≡ Some c → is_making e ≡ true → (m : Claimed)
    → claim_of window h e.caller.number ≡ Some m → m.owner ≡ c.meta.uid → Makes window e h k c m
entry_makes window e h g k c at ok m claim own =
    let old : Good window h = earlier window (e ∷ []) h g in
    let a = facts window h old in
    let x : Maker (state_of window h) (makes window h) (claim_of window h) a.home e.caller.number =
    call_makes (state_of window h) (makes window h) (claim_of window h) a.home a.now e.caller.role e.caller.number
    e.call
    (subst (λ (r : Result Reply Refusal). makes_with e.call r ≡ true) g.legal.0 ok) in
    let same : x.fact.m ≡ m = cc (sym x.fact.claimed ∙ claim) in
    let home : a.home m.owner ≡ x.sits.key = subst (λ (y : Claimed). a.home y.owner ≡ x.sits.key) same x.fact.home_is in
    let here : x.sits.key ≡ k = sym home ∙ ap a.home own ∙ (a.now.inv.store.crons k c at).home_is in
    let making = making_call e.call e.answer ok in
    record {
      sits = x.sits;
      held = sym (syncs_agree window h old.legal e.caller.number) ∙ x.at;
      key = here;
      role = (callers_apart window (e ∷ h) g.legal).alone.0 making.0 making.1;
      last = subst (λ (y : Claimed). y.time < upto c.status.last_schedule_time) same
          (x.fact.last c (ap (map.get (state_of window h).store.crons) here ∙ at)
          (sym own ∙ ap (λ (y : Claimed). y.owner) (sym same)));
      above = subst (λ (u : ℕ). EachTime u (λ t. t < m.time) (makes window h)) own
          (subst (λ (y : Claimed). EachTime y.owner (λ t. t < y.time) (makes window h)) same x.fact.above);
    }

-- ---- the times that were made

-- Where no making is for the CronJob, its times are what they were.
other_times : (u : ℕ) (b : Bool) (o : Option Claimed) (ms : List Claimed)
    → (b ≡ true → (m : Claimed) → o ≡ Some m → m.owner ≡ u → ⊥) → times_of u (with_made b o ms) ≡ times_of u ms
other_times u false o ms f = refl
other_times u true None ms f = refl
other_times u true (Some m) ms f = by (m.owner == u) refl
  where
    by : (b : Bool) → (m.owner == u) ≡ b → cond b (m.time ∷ times_of u ms) (times_of u ms) ≡ times_of u ms
    by true e = absurd (f refl m refl (eqb-true m.owner u e))
    by false e = refl

-- What holds of each time that was made for the CronJob holds of one of them.
pub of_times : (u : ℕ) (P : ℕ → Type 0) (ms : List Claimed) (t : ℕ) → EachTime u P ms → IsIn t (times_of u ms) → P t
of_times u P [] t a i = absurd i
of_times u P (m ∷ ms) t a i = by (m.owner == u) refl (of_times u P ms t a.1) i
  where
    by : (b : Bool) → (m.owner == u) ≡ b → (IsIn t (times_of u ms) → P t)
        → IsIn t (cond b (m.time ∷ times_of u ms) (times_of u ms)) → P t
    by true e rest (inl same) = subst P same (a.0 (eqb-true m.owner u e))
    by true e rest (inr j) = rest j
    by false e rest j = rest j

-- An entry that can't make one for the CronJob at the key leaves the times that were made for it.
pub times_left : (window : ℕ) (e : Told) (h : List Told) → Good window (e ∷ h) → (k : Place) (c : CronJob)
    → map.get (state_of window h).store.crons k ≡ Some c → ((m : Claimed) → Makes window e h k c m → ⊥)
    → made_for window c.meta.uid (e ∷ h) ≡ made_for window c.meta.uid h
times_left window e h g k c at f =
    other_times c.meta.uid (is_making e) (claim_of window h e.caller.number) (makes window h)
    (λ ok m claim own. f m (entry_makes window e h g k c at ok m claim own))
