-- What others than users write, beside a CronJob whose key they don't hold: neither it, nor a Job of
-- a name that is made for it, unless they drop one.
use Rattle.std.proofs.Common.{◌≡◌, ◌≢◌, ◌⊎◌, inl, inr, ℕ, zero, suc, ◌+◌, ◌/◌, ◌%◌, ◌==◌, nat_lt, Bool, true, false, List, [], ◌∷◌, ◌++◌, Option, Some, None, option_map, decimal, refl, sym, ap, subst, ◌∙◌, arith}
use Rattle.std.specs.Prelude.{IfSome, Result, Ok, Err, if◌then◌else◌}
use Rattle.std.specs.Fmt.{digit_glyph, digits, digits_onto}
use Rattle.std.specs.List.{AllByRecursion, slice_get}
use Rattle.cj_base.specs.declared.refusal.Refusal.{Refusal}
use Rattle.cj_types.specs.Keys.{Place}
use Rattle.cj_types.specs.Made.{made_place}
use Rattle.cj_types.specs.declared.cron.CronJob.{CronJob}
use Rattle.cj_types.specs.declared.cron.CronStatus.{CronStatus}
use Rattle.cj_types.specs.declared.job.Job.{Job}
use Rattle.cj_types.specs.declared.job.JobDraft.{JobDraft}
use Rattle.cj_types.specs.declared.event.Event.{Event}
use Rattle.cj_types.specs.declared.event.Object.TheVariants as Kind
use Rattle.cj_queue.specs.Parts.{key_eq}
use Rattle.cj_queue.proofs.Sets.{eq_true, eq_self}
use Rattle.cj_decide.specs.Decision.{Planned, IsDecided}
use Rattle.cj_decide.specs.declared.start.Claim.{Claim}
use Rattle.cj_decide.specs.laws.Fits.{FitsFor}
use Rattle.cj_decide.specs.laws.Laws.{IsIn}
use Rattle.cj_decide.proofs.LawsLemmas.Claims.{no_claim}
use Rattle.cj_decide.proofs.LawsLemmas.Fitting.{decided_fits}
use Rattle.cj_calls.specs.Rows.{Told}
use Rattle.cj_calls.specs.declared.caller.Caller.{Caller}
use Rattle.cj_calls.specs.declared.caller.Role.{Role}
use Rattle.cj_calls.specs.declared.caller.Role.TheVariants.{User, Runner, Informer, Worker}
use Rattle.cj_calls.specs.declared.call.Call.{Call}
use Rattle.cj_calls.specs.declared.call.Call.TheVariants as Of
use Rattle.cj_calls.specs.declared.reply.Reply.{Reply}
use Rattle.cj_calls.specs.declared.reply.Reply.TheVariants as Is
use Rattle.cj_state.specs.phases.Steps.{Step, drops, makes, sets, step_at, all_steps}
use Rattle.cj_state.specs.declared.phases.sync.Work.{Work}
use Rattle.cj_state.specs.declared.phases.sync.Phase.{Phase}
use Rattle.cj_state.specs.declared.phases.sync.Phase.TheVariants.{Checked, Works}
use Rattle.cj_state.specs.declared.phases.sync.InFlight.{InFlight}
use Rattle.cj_state.specs.declared.state.State.{State}
use Rattle.cj_state.specs.Step.{by_role, step_of}
use Rattle.cj_state.specs.Legal.{IsLegal, IsPlanned, state_of}
use Rattle.cj_world_laws.specs.legal.Callers.{is_of_sync}
use Rattle.cj_world_laws.specs.legal.InFlightSyncs.{sync, sync_after}
use Rattle.cj_world_laws.specs.once.Once.{is_ok}
use Rattle.cj_world_laws.proofs.LegalLemmas.Callers.{idle, callers_apart}
use Rattle.cj_world_laws.proofs.LegalLemmas.HeldSyncs.{syncs_agree}
use Rattle.cj_world_laws.proofs.LegalLemmas.Inputs.{rests_exactly}
use Rattle.cj_world_laws.specs.once.Once.{claim_of, makes as makes_of}
use Rattle.cj_world_laws.proofs.OnceLemmas.Facts.{SyncFact}
use Rattle.cj_world_laws.proofs.OnceLemmas.Lists.{in_all_makes}
use Rattle.cj_history.specs.store.Written.{current_cron, current_job, new_meta, written_again, status_set, job_deleted, job_ended}
use Rattle.cj_history.specs.store.Writes.{claimed, stepped, stepped_in, stepped_by, written_by, entry_written, writes}
use Rattle.cj_history.specs.progress.Undisturbed.{worker, object_of, is_of}
use Rattle.cj_history.specs.progress.Apart.{Holds, Spares}
use Rattle.cj_history.proofs.StoreLemmas.Answered.{cron_keyed, job_keyed}
use Rattle.cj_history.proofs.GapsLemmas.Whole.{same_nat}
use Rattle.cj_history.proofs.ProgressLemmas.Calls.{in_flight}
use Rattle.cj_history.proofs.ProgressLemmas.Aside.{caller_is}
use Rattle.cj_history.proofs.ProgressLemmas.Makers.{Good, earlier, facts}
use Rattle.cj_history.proofs.ProgressLemmas.Started.{Starting, starting, plan_of}
use Rattle.cj_history.proofs.ProgressLemmas.Apart.{came}
use Rattle.cj_history.proofs.ProgressLemmas.Moves.{Moves, sees, lists, checks, starts, goes_on, ends, gives_up, moves}

-- ---- names of Jobs

-- no byte of a text is a hyphen
abbrev HasNone : List ℕ → Type 0
HasNone xs = AllByRecursion (λ x. x ≢ 45) xs

-- A digit is none.
digit_none : (n : ℕ) → digit_glyph false (n % 10) ≢ 45
digit_none n = by (nat_lt (n % 10) 10)
  where
    by : (b : Bool) → (if b then 48 + n % 10 else (if false then 55 + n % 10 else 87 + n % 10)) ≢ 45
    by true e = omega (arith, e)
    by false e = omega (arith, e)

-- Where each of two texts has none, the one of them has none.
either : (ys zs : List ℕ) (b : Bool) → HasNone ys → HasNone zs → HasNone (if b then ys else zs)
either ys zs true f g = f
either ys zs false f g = g

-- Digits that are put before a text without a hyphen have none.
digits_none : (k n : ℕ) (xs : List ℕ) → HasNone xs → HasNone (digits_onto k 10 false n xs)
digits_none zero n xs a = a
digits_none (suc k) n xs a =
    let d = digit_glyph false (n % 10) in
    either (d ∷ xs) (digits_onto k 10 false (n / 10) (d ∷ xs)) (n / 10 == 0) (digit_none n, a)
    (digits_none k (n / 10) (d ∷ xs) (digit_none n, a))

-- The decimal of a number has none.
decimal_none : (n : ℕ) → HasNone (decimal n)
unfolding digits
decimal_none n = digits_none 64 n [] tt

-- For one_name: what stands behind a hyphen has one in it.
has_one : (xs ds es : List ℕ) → HasNone es → es ≡ xs ++ 45 ∷ ds → ⊥
has_one [] ds [] a e = cc e
has_one [] ds (y ∷ es) a e = a.0 (cc e)
has_one (x ∷ xs) ds [] a e = cc e
has_one (x ∷ xs) ds (y ∷ es) a e = has_one xs ds es a.1 (cc e)

-- Two texts with a last hyphen at which they are cut are cut alike.
one_name : (xs ys ds es : List ℕ) → HasNone ds → HasNone es → xs ++ 45 ∷ ds ≡ ys ++ 45 ∷ es → xs ≡ ys
one_name [] [] ds es a b e = refl
one_name [] (y ∷ ys) ds es a b e = absurd (has_one ys es ds a (cc e))
one_name (x ∷ xs) [] ds es a b e = absurd (has_one xs ds es b (cc (sym e)))
one_name (x ∷ xs) (y ∷ ys) ds es a b e =
    let head : x ≡ y = cc e in
    let tail : xs ≡ ys = one_name xs ys ds es a b (cc e) in
    ap (λ (z : ℕ). z ∷ xs) head ∙ ap (λ (zs : List ℕ). y ∷ zs) tail

-- Names that are made for two CronJobs differ.
pub one_maker : (j k : Place) (t u : ℕ) → made_place j t ≡ made_place k u → j ≡ k
one_maker j k t u e =
    let name : j.name ≡ k.name =
    one_name j.name k.name (decimal (t / 60)) (decimal (u / 60)) (decimal_none (t / 60)) (decimal_none (u / 60))
    (ap (λ (p : Place). p.name) e) in
    ap (λ (n : List ℕ). record { namespace = n; name = j.name }) (ap (λ (p : Place). p.namespace) e)
    ∙ ap (λ (n : List ℕ). record { namespace = k.namespace; name = n }) name

-- ---- who calls what

-- the calls of users that write
abbrev pub is_users : Call → Bool
is_users (Of.CreateCron d n) = true
is_users (Of.UpdateCron d) = true
is_users (Of.DeleteCron k) = true
is_users (Of.CreateJob d n) = true
is_users (Of.UpdateJob d) = true
is_users (Of.DeleteJob k) = true
is_users call = false

-- the end of a Job
abbrev pub is_end : Call → Bool
is_end (Of.EndJob k u o n) = true
is_end call = false

-- Nobody else's is accepted.
users_alone : (s : State) (role : Role) (w : ℕ) (call : Call) → role ≢ User
    → is_ok (by_role s role w call).answer ≡ true → is_users call ≡ false
users_alone s User w call n ok = absurd (n refl)
users_alone s Runner w (Of.CreateCron d m) n ok = absurd (cc ok)
users_alone s Runner w (Of.UpdateCron d) n ok = absurd (cc ok)
users_alone s Runner w (Of.DeleteCron k) n ok = absurd (cc ok)
users_alone s Runner w (Of.CreateJob d m) n ok = absurd (cc ok)
users_alone s Runner w (Of.UpdateJob d) n ok = absurd (cc ok)
users_alone s Runner w (Of.DeleteJob k) n ok = absurd (cc ok)
users_alone s Runner w call n ok = refl
users_alone s Informer w (Of.CreateCron d m) n ok = absurd (cc ok)
users_alone s Informer w (Of.UpdateCron d) n ok = absurd (cc ok)
users_alone s Informer w (Of.DeleteCron k) n ok = absurd (cc ok)
users_alone s Informer w (Of.CreateJob d m) n ok = absurd (cc ok)
users_alone s Informer w (Of.UpdateJob d) n ok = absurd (cc ok)
users_alone s Informer w (Of.DeleteJob k) n ok = absurd (cc ok)
users_alone s Informer w call n ok = refl
users_alone s Worker w (Of.CreateCron d m) n ok = absurd (cc ok)
users_alone s Worker w (Of.UpdateCron d) n ok = absurd (cc ok)
users_alone s Worker w (Of.DeleteCron k) n ok = absurd (cc ok)
users_alone s Worker w (Of.CreateJob d m) n ok = absurd (cc ok)
users_alone s Worker w (Of.UpdateJob d) n ok = absurd (cc ok)
users_alone s Worker w (Of.DeleteJob k) n ok = absurd (cc ok)
users_alone s Worker w call n ok = refl

-- Nor is the end of a Job of another than a runner.
runners_alone : (s : State) (role : Role) (w : ℕ) (call : Call) → role ≢ Runner
    → is_ok (by_role s role w call).answer ≡ true → is_end call ≡ false
runners_alone s Runner w call n ok = absurd (n refl)
runners_alone s User w (Of.EndJob k u o m) n ok = absurd (cc ok)
runners_alone s User w call n ok = refl
runners_alone s Informer w (Of.EndJob k u o m) n ok = absurd (cc ok)
runners_alone s Informer w call n ok = refl
runners_alone s Worker w (Of.EndJob k u o m) n ok = absurd (cc ok)
runners_alone s Worker w call n ok = refl

-- The same of an entry.
pub no_user : (window : ℕ) (e : Told) (h : List Told) → IsLegal window (e ∷ h) → e.caller.role ≢ User
    → is_ok e.answer ≡ true → is_users e.call ≡ false
unfolding step_of
no_user window e h l n ok =
    users_alone (state_of window h) e.caller.role e.caller.number e.call n (ap is_ok (sym l.0) ∙ ok)

-- And of the end of a Job.
pub no_runner : (window : ℕ) (e : Told) (h : List Told) → IsLegal window (e ∷ h) → e.caller.role ≢ Runner
    → is_ok e.answer ≡ true → is_end e.call ≡ false
unfolding step_of
no_runner window e h l n ok =
    runners_alone (state_of window h) e.caller.role e.caller.number e.call n (ap is_ok (sym l.0) ∙ ok)

-- ---- what is spared

-- the Job isn't the one of the name, if one is named
abbrev pub IsOff : Option Place → Place → Type 0
IsOff None i = Unit {0}
IsOff (Some q) i = key_eq i q ≡ false

-- the step's Job isn't
abbrev pub IsStepOff : Option Place → Step → Type 0
IsStepOff q (drops r) = IsOff q r.key
IsStepOff q (makes d) = IsOff q d.key
IsStepOff q (sets f) = Unit {0}

-- the next step of a sync in the phase, if there is one
abbrev pub next_of : Phase → Option Step
next_of (Works work) = step_at work.plan.steps work.place
next_of p = None

-- the sync, if there is one, is of another key, and its next step isn't of the Job
abbrev pub IsSyncOff : Place → Option Place → Option InFlight → Type 0
IsSyncOff k q o = IfSome o (λ x. (key_eq x.key k ≡ false) × IfSome (next_of x.phase) (IsStepOff q))

-- k is the key of the CronJob, and q the Job's name, if one is named.
module _ (ws : List Event) (k : Place) (q : Option Place) where
  -- the write, if there is one, is of neither
  abbrev AreSpared : Option Event → Type 0
  AreSpared o = IfSome o (λ x. is_of k q (object_of x) ≡ false)

  -- A Job that isn't the one isn't.
  job_off : (j : Job) → IsOff q j.key → is_of k q (Kind.Job j) ≡ false
  job_off j o = by q o
    where
      by : (p : Option Place) → IsOff p j.key → is_of k p (Kind.Job j) ≡ false
      by None f = refl
      by (Some x) f = f

  module _ (i : Place) (off : key_eq i k ≡ false) where
    -- A status of the worker's own CronJob spares them.
    status_spared : (st : CronStatus) → AreSpared (option_map (status_set ws st) (current_cron ws i))
    status_spared st = by (current_cron ws i) refl
      where
        by : (o : Option CronJob) → current_cron ws i ≡ o → AreSpared (option_map (status_set ws st) o)
        by None e = tt
        by (Some c) e = ap (λ (p : Place). key_eq p k) (cron_keyed ws i c e) ∙ off

    -- So does a step that isn't of the Job.
    step_spared : (p : Planned) (o : Option Step) → IfSome o (IsStepOff q) → AreSpared (stepped ws i p o)
    step_spared p None f = tt
    step_spared p (Some (drops r)) f = by (current_job ws r.key) refl
      where
        by : (o : Option Job) → current_job ws r.key ≡ o → AreSpared (option_map (job_deleted ws) o)
        by None e = tt
        by (Some j) e =
            job_off (record j { meta = written_again ws j.meta }) (subst (IsOff q) (sym (job_keyed ws r.key j e)) f)
    step_spared p (Some (makes d)) f =
        job_off
        (record { key = d.key; meta = new_meta ws d.meta p.at; owners = d.owners; spec = d.spec; outcome = None }) f
    step_spared p (Some (sets st)) f = status_spared st

  -- A claim of another key spares them.
  claim_spared : (o : Option InFlight) (y : Option Claim) → IsSyncOff k q o → AreSpared (claimed ws o y)
  claim_spared None y f = tt
  claim_spared (Some x) None f = tt
  claim_spared (Some x) (Some y) f = status_spared x.key f.0 y.status

  -- For call_spared: by the phase.
  phase_spared : (i : Place) (p : Phase) → key_eq i k ≡ false → IfSome (next_of p) (IsStepOff q)
      → AreSpared (stepped_in ws i p)
  phase_spared i (Works work) off f = step_spared i off work.plan (step_at work.plan.steps work.place) f
  phase_spared i p off f = tt

  -- For call_spared: by the sync.
  sync_spared : (o : Option InFlight) → IsSyncOff k q o → AreSpared (stepped_by ws o)
  sync_spared None f = tt
  sync_spared (Some x) f = phase_spared x.key x.phase f.0 f.1

  -- The end of a Job spares the CronJob.
  ended_spared : q ≡ None → (o : Option Event) → IfSome o (λ x. is_of k None (object_of x) ≡ false) → AreSpared o
  ended_spared none o f =
      subst (λ (p : Option Place). IfSome o (λ x. is_of k p (object_of x) ≡ false)) (sym none) f

  -- A call that no user makes, of a worker with such a sync, or of another, spares them.
  call_spared : (o : Option InFlight) (call : Call) (r : Reply) → (is_of_sync call ≡ true → IsSyncOff k q o)
      → is_users call ≡ false → (is_end call ≡ true → q ≡ None) → AreSpared (written_by ws o call r)
  call_spared o (Of.CreateCron d n) r f u e = absurd (cc u)
  call_spared o (Of.UpdateCron d) r f u e = absurd (cc u)
  call_spared o (Of.DeleteCron j) r f u e = absurd (cc u)
  call_spared o (Of.CreateJob d n) r f u e = absurd (cc u)
  call_spared o (Of.UpdateJob d) r f u e = absurd (cc u)
  call_spared o (Of.DeleteJob j) r f u e = absurd (cc u)
  call_spared o (Of.EndJob j v outcome now) r f u e =
      ended_spared (e refl) (option_map (job_ended ws outcome now) (current_job ws j)) (by (current_job ws j))
    where
      by : (x : Option Job)
          → IfSome (option_map (job_ended ws outcome now) x) (λ x. is_of k None (object_of x) ≡ false)
      by None = tt
      by (Some x) = refl
  call_spared o (Of.Claim p) (Is.Claimed (Some c)) f u e = claim_spared o p.steps.claim (f refl)
  call_spared o Of.DropNext (Is.Dropped (Some d)) f u e = sync_spared o (f refl)
  call_spared o Of.MakeNext r f u e = sync_spared o (f refl)
  call_spared o Of.SetStatus r f u e = sync_spared o (f refl)
  call_spared o (Of.Claim p) r f u e = tt
  call_spared o Of.DropNext r f u e = tt
  call_spared o call r f u e = tt

-- ---- the plan that is worked off

-- it is decided, for a CronJob of the key
pub record IsPlanOf (k : Place) (p : Planned) : Type 0 where
  pub decided : IsDecided p
  pub key : (c : CronJob) → p.cron ≡ Some c → c.key ≡ k

-- the phase of a sync, if there is one
abbrev phase_of : Option InFlight → Option Phase
phase_of None = None
phase_of (Some x) = Some x.phase

-- the plan that is worked off in a phase, or another
abbrev plan_in : Planned → Phase → Planned
plan_in other (Works work) = work.plan
plan_in other p = other

-- For worked: it is so with one entry more.
module _ (window : ℕ) (e : Told) (h : List Told) (good : Good window (e ∷ h))
    (before : (w : ℕ) (k : Place) (work : Work) → sync h w ≡ Some (in_flight k (Works work)) → IsPlanOf k work.plan)
    (w : ℕ) (k : Place) (work : Work) (at : sync (e ∷ h) w ≡ Some (in_flight k (Works work))) where
  old : Good window h
  old = earlier window (e ∷ []) h good

  -- The CronJob that a worker saw is of its key.
  seen_key : (x : InFlight) → sync h w ≡ Some x → (d : CronJob) (js : List Job) (ks : List (Option Job))
      → x.phase ≡ Checked (Some d) js ks → d.key ≡ x.key
  seen_key x was d js ks p =
      let a = facts window h old in
      let fact = a.now.inv.facts w x (syncs_agree window h old.legal w ∙ was) in
      (subst (SyncFact a.home (state_of window h).store (makes_of window h) (claim_of window h w) x.key) p
      fact).seen.key

  by_move : (x : InFlight) → sync h w ≡ Some x → Moves x.key x.phase e.call (sync (e ∷ h) w) → IsPlanOf k work.plan
  by_move x was (sees c p call o) = absurd (cc (ap phase_of (sym at ∙ o)))
  by_move x was (lists c js p call o) = absurd (cc (ap phase_of (sym at ∙ o)))
  by_move x was (checks c js ks p call o) = absurd (cc (ap phase_of (sym at ∙ o)))
  by_move x was (ends other reasons p n call o) = absurd (cc (sym at ∙ o))
  by_move x was (gives_up now reasons call o) = absurd (cc (sym at ∙ o))
  by_move x was (goes_on other n p is call o) =
      let now : in_flight x.key (Works (record { plan = other.plan; version = other.version; place = other.place + 1 }))
      ≡ in_flight k (Works work) = cc (sym o ∙ at) in
      let key : x.key ≡ k = ap (λ (y : InFlight). y.key) now in
      let plan : other.plan ≡ work.plan = ap (λ (y : InFlight). plan_in work.plan y.phase) now in
      let here = before w x.key other (was ∙ ap (λ (r : Phase). Some (in_flight x.key r)) p) in
      subst (IsPlanOf k) plan (subst (λ (i : Place). IsPlanOf i other.plan) key here)
  by_move x was (starts c js ks plan v p call rests o) =
      let now : in_flight x.key (Works (record { plan = plan; version = v; place = 0 }))
      ≡ in_flight k (Works work) = cc (sym o ∙ at) in
      let key : x.key ≡ k = ap (λ (y : InFlight). y.key) now in
      let same : plan ≡ work.plan = ap (λ (y : InFlight). plan_in work.plan y.phase) now in
      let three = (rests_exactly plan c js ks).0 rests in
      subst (IsPlanOf k) same (record {
        decided = subst IsPlanned call good.planned.0;
        key = λ d f.
            seen_key x was d js ks (p ∙ ap (λ (o : Option CronJob). Checked o js ks) (sym three.0 ∙ f)) ∙ key;
      })

  -- A Take leaves no plan.
  none_works : ((x : InFlight) × (None ≡ Some x) × (x.key ≡ k)) ⊎ ((e.call ≡ Of.Take) × (e.answer ≡ Ok (Is.Key k)))
      → sync_after None e.call e.answer ≡ Some (in_flight k (Works work)) → IsPlanOf k work.plan
  none_works (inl (x, f, g)) after = absurd (cc f)
  none_works (inr (f, g)) after = absurd (cc (ap phase_of (
      ap (λ (a : Result Reply Refusal). sync_after None Of.Take a) (sym g)
      ∙ ap (λ (c : Call). sync_after None c e.answer) (sym f) ∙ after)))

  -- The sync of the entry's number, after it.
  own_sync : (w == e.caller.number) ≡ true → sync (e ∷ h) w ≡ sync_after (sync h w) e.call e.answer
  own_sync n = ap (λ (b : Bool). if b then sync_after (sync h w) e.call e.answer else sync h w) n

  by_sync : (w == e.caller.number) ≡ true → e.caller ≡ worker w → is_ok e.answer ≡ true → (o : Option InFlight)
      → sync h w ≡ o → IsPlanOf k work.plan
  by_sync n own ok None was =
      let after : sync_after None e.call e.answer ≡ Some (in_flight k (Works work)) =
      ap (λ (o : Option InFlight). sync_after o e.call e.answer) (sym was) ∙ sym (own_sync n) ∙ at in
      none_works (came None e.call e.answer (in_flight k (Works work)) after) after
  by_sync n own ok (Some x) was = by_move x was (moves window h e w x.key x.phase good.legal own was ok)

  by_answer : (w == e.caller.number) ≡ true → e.caller ≡ worker w → (a : Result Reply Refusal) → e.answer ≡ a
      → IsPlanOf k work.plan
  by_answer n own (Ok r) f = by_sync n own (ap is_ok f) (sync h w) refl
  by_answer n own (Err x) f =
      before w k work (sym (own_sync n ∙ ap (sync_after (sync h w) e.call) f) ∙ at)

  others : (w == e.caller.number) ≡ true → e.caller.role ≢ Worker → IsPlanOf k work.plan
  others n not =
      before w k work (sym (own_sync n ∙ (idle window e h good.legal not).syncs (sync h w)) ∙ at)

  by_caller : (w == e.caller.number) ≡ true → (r : Role) → e.caller.role ≡ r → IsPlanOf k work.plan
  by_caller n Worker f = by_answer n (caller_is w e.caller n f) e.answer refl
  by_caller n User f = others n (λ g. cc (sym f ∙ g))
  by_caller n Runner f = others n (λ g. cc (sym f ∙ g))
  by_caller n Informer f = others n (λ g. cc (sym f ∙ g))

  by_number : (b : Bool) → (w == e.caller.number) ≡ b → IsPlanOf k work.plan
  by_number true n = by_caller n e.caller.role refl
  by_number false n =
      before w k work
      (sym (ap (λ (b : Bool). if b then sync_after (sync h w) e.call e.answer else sync h w) n) ∙ at)

-- Who works off a plan does so for the CronJob whose key it holds.
pub worked : (window : ℕ) (h : List Told) → Good window h → (w : ℕ) (k : Place) (work : Work)
    → sync h w ≡ Some (in_flight k (Works work)) → IsPlanOf k work.plan
worked window [] good w k work at = absurd (cc at)
worked window (e ∷ h) good w k work at =
    by_number window e h good (worked window h (earlier window (e ∷ []) h good)) w k work at (w == e.caller.number) refl

-- What stands at a place of a list is in it.
stands_in_it : (xs : List Step) (i : ℕ) (x : Step) → slice_get xs i ≡ Some x → IsIn x xs
stands_in_it [] zero x f = absurd (cc f)
stands_in_it [] (suc i) x f = absurd (cc f)
stands_in_it (y ∷ ys) zero x f = inl (cc f)
stands_in_it (y ∷ ys) (suc i) x f = inr (stands_in_it ys i x f)

-- A making that is next is of the draft that the plan makes.
made_next : (p : Planned) (place : ℕ) (d : JobDraft) → step_at p.steps place ≡ Some (makes d) → p.steps.make ≡ Some d
unfolding step_at
made_next p place d is = in_all_makes p.steps d (stands_in_it (all_steps p.steps) place (makes d) is)

-- the key of a draft, if there is one, or another
abbrev key_or : Place → Option JobDraft → Place
key_or other None = other
key_or other (Some d) = d.key

-- The Job that is made next has a name that is made for the CronJob whose key is held.
made_for_own : (k : Place) (p : Planned) (d : JobDraft) → IsPlanOf k p → p.steps.make ≡ Some d
    → (t : ℕ) × (d.key ≡ made_place k t)
made_for_own k p d plan made = by_cron p.cron refl
  where
    by_claim : (c : CronJob) → p.cron ≡ Some c → (o : Option Claim) → p.steps.claim ≡ o
        → (t : ℕ) × (d.key ≡ made_place k t)
    by_claim c seen None none =
        absurd (cc (sym made
        ∙ (no_claim (Some c) p.jobs p.active p.at p.zone p.steps (plan_of p c plan.decided seen) none).make))
    by_claim c seen (Some y) claim =
        let start : Starting p c y = starting p c y plan.decided seen claim in (
          y.time,
          ap (key_or k) (sym made ∙ start.make) ∙ ap (λ (j : Place). made_place j y.time) (plan.key c seen),
        )

    by_cron : (o : Option CronJob) → p.cron ≡ o → (t : ℕ) × (d.key ≡ made_place k t)
    by_cron None seen =
        let clear : FitsFor p None = subst (FitsFor p) seen (decided_fits p plan.decided) in
        absurd (cc (sym made ∙ clear.makes))
    by_cron (Some c) seen = by_claim c seen p.steps.claim refl

-- ---- entries

-- e is an entry after h of one who is no user, and doesn't hold the key k.
module _ (window : ℕ) (h : List Told) (e : Told) (k : Place) (good : Good window (e ∷ h))
    (user : e.caller.role ≢ User) (free : Holds h k e.caller → ⊥) where
  -- A worker's sync is of another key.
  key_off : (x : InFlight) → e.caller.role ≡ Worker → sync h e.caller.number ≡ Some x → key_eq x.key k ≡ false
  key_off x role was = at (key_eq x.key k) refl
    where
      at : (b : Bool) → key_eq x.key k ≡ b → key_eq x.key k ≡ false
      at false f = f
      at true f = absurd (free (record {
        role = role;
        phase = x.phase;
        sync = was ∙ ap (λ (i : Place). Some (in_flight i x.phase)) (eq_true x.key k f);
      }))

  -- An accepted call of a sync is a worker's.
  is_worker : is_ok e.answer ≡ true → is_of_sync e.call ≡ true → e.caller.role ≡ Worker
  is_worker ok i = (callers_apart window (e ∷ h) good.legal).alone.0 i ok

  -- ---- the CronJob

  -- No step is of a Job that isn't named.
  none_named : (o : Option Step) → IfSome o (IsStepOff None)
  none_named None = tt
  none_named (Some (drops r)) = tt
  none_named (Some (makes d)) = tt
  none_named (Some (sets f)) = tt

  other_key : (o : Option InFlight) → e.caller.role ≡ Worker → sync h e.caller.number ≡ o → IsSyncOff k None o
  other_key None role was = tt
  other_key (Some x) role was = (key_off x role was, none_named (next_of x.phase))

  -- It spares the CronJob.
  pub cron_spared : Spares h e k None
  cron_spared = by e.answer refl
    where
      by : (a : Result Reply Refusal) → e.answer ≡ a
          → IfSome (entry_written (writes h) (sync h e.caller.number) e.call a)
          (λ x. is_of k None (object_of x) ≡ false)
      by (Err x) f = tt
      by (Ok r) f =
          call_spared (writes h) k None (sync h e.caller.number) e.call r
          (λ i. other_key (sync h e.caller.number) (is_worker (ap is_ok f) i) refl)
          (no_user window e h good.legal user (ap is_ok f)) (λ i. refl)

  -- ---- a Job

  -- t is a time for which a Job may be made for the CronJob; the caller ends no Job and drops none.
  module _ (t : ℕ) (runner : e.caller.role ≢ Runner) (drop : e.call ≢ Of.DropNext) where
    abbrev q : Option Place
    q = Some (made_place k t)

    -- The Job that is made for another CronJob is another.
    made_apart : (i d : Place) (u : ℕ) → key_eq i k ≡ false → d ≡ made_place i u → key_eq d (made_place k t) ≡ false
    made_apart i d u f is = at (key_eq d (made_place k t)) refl
      where
        at : (b : Bool) → key_eq d (made_place k t) ≡ b → key_eq d (made_place k t) ≡ false
        at false g = g
        at true g =
            let same : i ≡ k = one_maker i k u t (sym is ∙ eq_true d (made_place k t) g) in
            absurd (cc (sym f ∙ ap (λ (j : Place). key_eq j k) same ∙ eq_self k))

    -- By what a sync's own call is, its next step isn't of the Job.
    move_spared : (r : Reply) → e.answer ≡ Ok r → (x : InFlight) → e.caller.role ≡ Worker
        → sync h e.caller.number ≡ Some x
        → Moves x.key x.phase e.call (sync (e ∷ h) e.caller.number)
        → AreSpared (writes h) k q (written_by (writes h) (Some x) e.call r)
    move_spared r f x role was (gives_up now reasons call o) =
        subst (λ (c : Call). AreSpared (writes h) k q (written_by (writes h) (Some x) c r)) (sym call) tt
    move_spared r f x role was (sees c p call o) =
        subst (λ (c : Call). AreSpared (writes h) k q (written_by (writes h) (Some x) c r)) (sym call) tt
    move_spared r f x role was (lists c js p call o) =
        subst (λ (c : Call). AreSpared (writes h) k q (written_by (writes h) (Some x) c r)) (sym call) tt
    move_spared r f x role was (checks c js ks p call o) =
        subst (λ (c : Call). AreSpared (writes h) k q (written_by (writes h) (Some x) c r)) (sym call) tt
    move_spared r f x role was (ends work reasons p n call o) =
        subst (λ (c : Call). AreSpared (writes h) k q (written_by (writes h) (Some x) c r)) (sym call) tt
    move_spared r f x role was (starts c js ks plan v p call rests o) =
        call_spared (writes h) k q (Some x) e.call r
        (λ i. (key_off x role was, subst (λ (y : Phase). IfSome (next_of y) (IsStepOff q)) (sym p) tt))
        (no_user window e h good.legal user (ap is_ok f))
        (λ i. absurd (cc (sym i ∙ ap is_end call)))
    move_spared r f x role was (goes_on work (drops d) p is call o) = absurd (drop call)
    move_spared r f x role was (goes_on work (makes d) p is call o) =
        let at_works : sync h e.caller.number ≡ Some (in_flight x.key (Works work)) =
        was ∙ ap (λ (y : Phase). Some (in_flight x.key y)) p in
        let plan = worked window h (earlier window (e ∷ []) h good) e.caller.number x.key work at_works in
        let name = made_for_own x.key work.plan d plan (made_next work.plan work.place d is) in
        let off = made_apart x.key d.key name.0 (key_off x role was) name.1 in
        call_spared (writes h) k q (Some x) e.call r
        (λ i. (
          key_off x role was,
          subst (λ (y : Phase). IfSome (next_of y) (IsStepOff q)) (sym p)
              (subst (λ (n : Option Step). IfSome n (IsStepOff q)) (sym is) off),
        ))
        (no_user window e h good.legal user (ap is_ok f))
        (λ i. absurd (cc (sym i ∙ ap is_end call)))
    move_spared r f x role was (goes_on work (sets st) p is call o) =
        call_spared (writes h) k q (Some x) e.call r
        (λ i. (
          key_off x role was,
          subst (λ (y : Phase). IfSome (next_of y) (IsStepOff q)) (sym p)
              (subst (λ (n : Option Step). IfSome n (IsStepOff q)) (sym is) tt),
        ))
        (no_user window e h good.legal user (ap is_ok f))
        (λ i. absurd (cc (sym i ∙ ap is_end call)))

    own_spared : (r : Reply) → e.answer ≡ Ok r → e.caller ≡ worker e.caller.number → (o : Option InFlight)
        → sync h e.caller.number ≡ o
        → AreSpared (writes h) k q (written_by (writes h) o e.call r)
    own_spared r f own None was =
        call_spared (writes h) k q None e.call r (λ i. tt) (no_user window e h good.legal user (ap is_ok f))
        (λ i. absurd (cc (sym i ∙ no_runner window e h good.legal runner (ap is_ok f))))
    own_spared r f own (Some x) was =
        move_spared r f x (ap (λ (c : Caller). c.role) own) was
        (moves window h e e.caller.number x.key x.phase good.legal own was (ap is_ok f))

    called_spared : (r : Reply) → e.answer ≡ Ok r → (b : Bool) → is_of_sync e.call ≡ b
        → AreSpared (writes h) k q (written_by (writes h) (sync h e.caller.number) e.call r)
    called_spared r f true i =
        let own : e.caller ≡ worker e.caller.number =
        caller_is e.caller.number e.caller (same_nat e.caller.number) (is_worker (ap is_ok f) i) in
        own_spared r f own (sync h e.caller.number) refl
    called_spared r f false i =
        call_spared (writes h) k q (sync h e.caller.number) e.call r (λ j. absurd (cc (sym j ∙ i)))
        (no_user window e h good.legal user (ap is_ok f))
        (λ j. absurd (cc (sym j ∙ no_runner window e h good.legal runner (ap is_ok f))))

    -- It spares a Job of a name that is made for the CronJob.
    pub job_spared : Spares h e k q
    job_spared = by e.answer refl
      where
        by : (a : Result Reply Refusal) → e.answer ≡ a
            → IfSome (entry_written (writes h) (sync h e.caller.number) e.call a)
            (λ x. is_of k (Some (made_place k t)) (object_of x) ≡ false)
        by (Err x) f = tt
        by (Ok r) f = called_spared r f (is_of_sync e.call) refl
