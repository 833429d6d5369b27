-- What others call aside leaves the worker's sync, its CronJob and the Job's name as they were; and
-- a worker's calls by the state alone.
use Rattle.std.proofs.Common.{◌≡◌, ◌≢◌, ℕ, ◌≤◌, ◌==◌, Bool, true, false, cond, List, [], ◌∷◌, ◌++◌, Option, Some, None, refl, sym, ap, subst, ◌∙◌, arith}
use Rattle.std.specs.Prelude.{IfSome, Result, Ok, Err, if◌then◌else◌}
use Rattle.std.proofs.lemmas.Bool.{eqb-true}
use Rattle.std.specs.FinMap as map
use Rattle.cj_base.specs.declared.refusal.Refusal.{Refusal}
use Rattle.cj_types.specs.Keys.{Place}
use Rattle.cj_types.specs.declared.cron.CronJob.{CronJob}
use Rattle.cj_types.specs.declared.job.Job.{Job}
use Rattle.cj_types.specs.declared.event.Event.{Event}
use Rattle.cj_types.specs.declared.event.Event.TheVariants.{Added, Modified, Deleted}
use Rattle.cj_types.specs.declared.event.Object.TheVariants as Kind
use Rattle.cj_store.specs.Content.{Content}
use Rattle.cj_decide.specs.laws.Laws.{IsIn}
use Rattle.cj_calls.specs.declared.caller.Caller.{Caller}
use Rattle.cj_calls.specs.declared.caller.Role.{Role}
use Rattle.cj_calls.specs.declared.caller.Role.TheVariants.{Worker}
use Rattle.cj_calls.specs.declared.call.Call.{Call}
use Rattle.cj_calls.specs.declared.reply.Reply.{Reply}
use Rattle.cj_calls.specs.Rows.{Told}
use Rattle.cj_state.specs.declared.state.State.{State}
use Rattle.cj_state.specs.WorkerCalls.{Handled, sync_of}
use Rattle.cj_state.specs.Readings.{listed_of}
use Rattle.cj_state.specs.Step.{step_of}
use Rattle.cj_state.specs.Legal.{IsLegal, is_entered, state_of}
use Rattle.cj_world_laws.specs.legal.InFlightSyncs.{sync, sync_after}
use Rattle.cj_world_laws.specs.once.Once.{is_ok}
use Rattle.cj_world_laws.proofs.LegalLemmas.HeldSyncs.{syncs_agree}
use Rattle.cj_world_laws.proofs.LegalLemmas.Callers.{idle}
use Rattle.cj_history.specs.store.Written.{made, current_cron, current_job, cron_left, job_left}
use Rattle.cj_history.specs.store.Writes.{entry_written, with_write, writes}
use Rattle.cj_history.specs.progress.Undisturbed.{worker, object_of, is_of, AreAside, entry, Leads}
use Rattle.cj_history.proofs.StoreLemmas.Stores.{store_agrees}
use Rattle.cj_history.proofs.StoreLemmas.Answered.{job_keyed}
use Rattle.cj_history.proofs.ProgressLemmas.Ages.{IsSettled, settled_on, listed_settled}
use Rattle.cj_history.proofs.ProgressLemmas.Fair.{entry_fair, are_fair, fair_uid, IsNever, never_with, listed_uid}

-- ---- by the entries

-- the Job of a name, if one is named
abbrev job_of : Option Place → List Event → Option Job
job_of None ws = None
job_of (Some q) ws = current_job ws q

-- some writes left what others left: at the key of a CronJob, and of a Job if one is named; and no
-- fewer objects were made
record Alike (k : Place) (q : Option Place) (vs ws : List Event) : Type 0 where
  cron : current_cron ws k ≡ current_cron vs k
  job : job_of q ws ≡ job_of q vs
  more : made vs ≤ made ws

-- A write of another CronJob leaves the one at the key.
pub cron_aside : (w : Event) (k : Place) (q : Option Place) (was : Option CronJob) → is_of k q (object_of w) ≡ false
    → cron_left w k was ≡ was
cron_aside (Added (Kind.Cron c)) k q was e = ap (λ b. cond b (Some c) was) e
cron_aside (Modified (Kind.Cron c)) k q was e = ap (λ b. cond b (Some c) was) e
cron_aside (Deleted (Kind.Cron c)) k q was e = ap (λ b. cond b None was) e
cron_aside (Added (Kind.Job j)) k q was e = refl
cron_aside (Modified (Kind.Job j)) k q was e = refl
cron_aside (Deleted (Kind.Job j)) k q was e = refl

-- A write of another Job leaves the one of the name.
job_aside : (w : Event) (k q : Place) (was : Option Job) → is_of k (Some q) (object_of w) ≡ false
    → job_left w q was ≡ was
job_aside (Added (Kind.Job j)) k q was e = ap (λ b. cond b (Some j) was) e
job_aside (Modified (Kind.Job j)) k q was e = ap (λ b. cond b (Some j) was) e
job_aside (Deleted (Kind.Job j)) k q was e = ap (λ b. cond b None was) e
job_aside (Added (Kind.Cron c)) k q was e = refl
job_aside (Modified (Kind.Cron c)) k q was e = refl
job_aside (Deleted (Kind.Cron c)) k q was e = refl

-- The same where no Job is named.
jobs_aside : (w : Event) (ws : List Event) (k : Place) (q : Option Place) → is_of k q (object_of w) ≡ false
    → job_of q (w ∷ ws) ≡ job_of q ws
jobs_aside w ws k None e = refl
jobs_aside w ws k (Some q) e = job_aside w k q (current_job ws q) e

-- One write more makes no fewer objects.
made_more : (w : Event) (ws : List Event) → made ws ≤ made (w ∷ ws)
made_more (Added o) ws = omega arith
made_more (Modified o) ws = omega arith
made_more (Deleted o) ws = omega arith

-- One write more that is aside, or none, leaves what was left.
alike_with : (k : Place) (q : Option Place) (vs ws : List Event) (o : Option Event)
    → IfSome o (λ x. is_of k q (object_of x) ≡ false) → Alike k q vs ws → Alike k q vs (with_write o ws)
alike_with k q vs ws None e f = f
alike_with k q vs ws (Some w) e f = record {
  cron = cron_aside w k q (current_cron ws k) e ∙ f.cron;
  job = jobs_aside w ws k q e ∙ f.job;
  more = (let a = f.more in let b = made_more w ws in omega (arith, a, b));
}

-- What others call aside leaves it.
alike : (w : ℕ) (k : Place) (q : Option Place) (es h : List Told) → AreAside w k q es h
    → Alike k q (writes h) (writes (es ++ h))
alike w k q [] h a = record { cron = refl; job = refl; more = omega arith }
alike w k q (e ∷ es) h a =
    alike_with k q (writes h) (writes (es ++ h))
    (entry_written (writes (es ++ h)) (sync (es ++ h) e.caller.number) e.call e.answer) a.1 (alike w k q es h a.2)

-- A caller of a worker's number and role is that worker.
pub caller_is : (w : ℕ) (c : Caller) → (w == c.number) ≡ true → c.role ≡ Worker → c ≡ worker w
caller_is w c n r = ap (λ (x : Role). record { number = c.number; role = x }) r
    ∙ ap (λ (x : ℕ). record { number = x; role = Worker }) (sym (eqb-true w c.number n))

-- What others call leaves the worker's sync: those of another number, and those of its number and
-- another role.
pub sync_aside : (window w : ℕ) (k : Place) (q : Option Place) (es h : List Told) → IsLegal window (es ++ h)
    → AreAside w k q es h → sync (es ++ h) w ≡ sync h w
sync_aside window w k q [] h l a = refl
sync_aside window w k q (e ∷ es) h l a = left (w == e.caller.number) refl ∙ sync_aside window w k q es h l.2 a.2
  where
    left : (b : Bool) → (w == e.caller.number) ≡ b
        → (if b then sync_after (sync (es ++ h) w) e.call e.answer else sync (es ++ h) w) ≡ sync (es ++ h) w
    left true n = (idle window e (es ++ h) l (λ r. a.0 (caller_is w e.caller n r))).syncs (sync (es ++ h) w)
    left false n = refl

-- What others call aside gives a uid that was given out, and that the Job at a key hasn't, to none
-- there.
never : (w : ℕ) (k : Place) (q : Option Place) (es h : List Told) → AreAside w k q es h → (i : Place) (u : ℕ)
    → u ≤ made (writes h) → IsNever (writes h) i u → IsNever (writes (es ++ h)) i u
never w k q [] h a i u l n = n
never w k q (e ∷ es) h a i u l n =
    let m = (alike w k q es h a.2).more in
    never_with (writes (es ++ h)) (entry_written (writes (es ++ h)) (sync (es ++ h) e.caller.number) e.call e.answer) i
    u
    (entry_fair (writes (es ++ h)) (sync (es ++ h) e.caller.number) e.call e.answer) (omega (arith, l, m))
    (never w k q es h a.2 i u l n)

-- ---- by the states

-- each Job stands at its own key
abbrev pub AreKeyed : Content → Type 0
AreKeyed s = (q : Place) (x : Job) → map.get s.jobs q ≡ Some x → x.key ≡ q

-- the Job of a name in a content, if one is named
abbrev pub job_in : Option Place → Content → Option Job
job_in None s = None
job_in (Some q) s = map.get s.jobs q

-- what a state that others left has of the one before
pub record Same (w : ℕ) (k : Place) (q : Option Place) (s t : State) : Type 0 where
  pub sync : sync_of t w ≡ sync_of s w
  pub cron : map.get t.store.crons k ≡ map.get s.store.crons k
  pub job : job_in q t.store ≡ job_in q s.store
  pub more : s.store.uids ≤ t.store.uids
  pub keys : AreKeyed t.store
  pub given : (j : Job) → IsIn j (listed_of t k) → j.meta.uid ≤ t.store.uids
  pub settled : (j : Job) → IsIn j (listed_of t k) → IsSettled j t.store
  pub ages : (j : Job) → j.meta.uid ≤ s.store.uids → IsSettled j s.store → IsSettled j t.store
  pub stored : (i : Place) (x : Job) → map.get t.store.jobs i ≡ Some x → x.meta.uid ≤ t.store.uids
  pub never : (i : Place) (u : ℕ) → u ≤ s.store.uids → ((x : Job) → map.get s.store.jobs i ≡ Some x → x.meta.uid ≢ u)
      → (x : Job) → map.get t.store.jobs i ≡ Some x → x.meta.uid ≢ u

-- In a legal history the Job of a name is the one that its writes left.
job_is : (window : ℕ) (h : List Told) → IsLegal window h → (q : Option Place)
    → job_in q (state_of window h).store ≡ job_of q (writes h)
job_is window h l None = refl
job_is window h l (Some q) = (store_agrees window h l).jobs q

-- In a legal history each Job stands at its own key.
pub keyed : (window : ℕ) (h : List Told) → IsLegal window h → AreKeyed (state_of window h).store
keyed window h l q x e = job_keyed (writes h) q x (sym ((store_agrees window h l).jobs q) ∙ e)

-- Earlier entries of a legal history are legal.
pub legal_rest : (window : ℕ) (es h : List Told) → IsLegal window (es ++ h) → IsLegal window h
legal_rest window [] h l = l
legal_rest window (e ∷ es) h l = legal_rest window es h l.2

-- What others call aside leaves such a state.
pub same_aside : (window w : ℕ) (k : Place) (q : Option Place) (es h : List Told) → IsLegal window (es ++ h)
    → AreAside w k q es h → Same w k q (state_of window h) (state_of window (es ++ h))
same_aside window w k q es h l a =
    let m : IsLegal window h = legal_rest window es h l in
    let f : Alike k q (writes h) (writes (es ++ h)) = alike w k q es h a in
    let u = (store_agrees window h m).uids in
    let v = (store_agrees window (es ++ h) l).uids in
    record {
      sync = syncs_agree window (es ++ h) l w ∙ sync_aside window w k q es h l a ∙ sym (syncs_agree window h m w);
      cron = (store_agrees window (es ++ h) l).crons k ∙ f.cron ∙ sym ((store_agrees window h m).crons k);
      job = job_is window (es ++ h) l q ∙ f.job ∙ sym (job_is window h m q);
      more = (let c = f.more in omega (arith, c, u, v));
      keys = keyed window (es ++ h) l;
      given = λ j i. listed_uid window (es ++ h) l k j i;
      settled = λ j i. listed_settled window (es ++ h) l k j i;
      ages = λ j b c. settled_on window es h l m j b c;
      stored = λ i x e. subst (λ z. x.meta.uid ≤ z) (sym v)
          (fair_uid (writes (es ++ h)) (are_fair (es ++ h)) i x (sym ((store_agrees window (es ++ h) l).jobs i) ∙ e));
      never = λ i n b c x e. never w k q es h a i n (subst (λ z. n ≤ z) u b)
          (λ y g. c y ((store_agrees window h m).jobs i ∙ g)) x (sym ((store_agrees window (es ++ h) l).jobs i) ∙ e);
    }

-- ---- calls by the state alone

-- a worker's calls, each after what others leave, are all accepted, and that holds of the state
-- after them
abbrev pub Goes : ℕ → Place → Option Place → State → List Call → (State → Type 0) → Type 0
Goes w k q s [] P = P s
Goes w k q s (call ∷ calls) P = (t : State) → Same w k q s t
    → (is_ok (step_of t (worker w) call).answer ≡ true) × Goes w k q (step_of t (worker w) call).state calls P

-- An accepted answer is entered.
pub ok_entered : (a : Result Reply Refusal) → is_ok a ≡ true → is_entered a ≡ true
ok_entered (Ok r) e = refl
ok_entered (Err x) e = absurd (cc e)

-- Calls that go so from the state of a legal history lead so from the history.
pub goes_leads : (window w : ℕ) (k : Place) (q : Option Place) (h : List Told) (calls : List Call)
    (P : List Told → Type 0)
    (R : State → Type 0) → IsLegal window h → ((g : List Told) → IsLegal window g → R (state_of window g) → P g)
    → Goes w k q (state_of window h) calls R → Leads window w k q h calls P
goes_leads window w k q h [] P R l end f = end h l f
goes_leads window w k q h (call ∷ calls) P R l end f = λ es m a.
    let r = f (state_of window (es ++ h)) (same_aside window w k q es h m a) in (
      r.0,
      goes_leads window w k q (entry window (es ++ h) w call ∷ (es ++ h)) calls P R
          (refl, ok_entered (step_of (state_of window (es ++ h)) (worker w) call).answer r.0, m) end r.1,
    )

-- what a call is answered and leaves, where it is accepted and the calls after it go
pub record Next (w : ℕ) (k : Place) (q : Option Place) (t : State) (call : Call) (calls : List Call)
    (P : State → Type 0) : Type 0
  where
    pub handled : Handled
    pub is : step_of t (worker w) call ≡ handled
    pub accepted : is_ok handled.answer ≡ true
    pub goes : Goes w k q handled.state calls P

-- A call that is accepted after whatever others leave, and the calls after it, go together.
pub goes : (w : ℕ) (k : Place) (q : Option Place) (s : State) (call : Call) (calls : List Call) (P : State → Type 0)
    → ((t : State) → Same w k q s t → Next w k q t call calls P) → Goes w k q s (call ∷ calls) P
goes w k q s call calls P f t same =
    let n = f t same in (
      ap (λ (x : Handled). is_ok x.answer) n.is ∙ n.accepted,
      subst (λ (x : Handled). Goes w k q x.state calls P) (sym n.is) n.goes,
    )
