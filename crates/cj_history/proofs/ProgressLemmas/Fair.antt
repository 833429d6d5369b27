-- The Jobs that writes left: each has a uid that was given out.
use Rattle.std.proofs.Common.{◌≡◌, ◌≢◌, ℕ, zero, suc, ◌+◌, ◌-◌, ◌≤◌, inl, inr, Bool, true, false, cond, List, [], ◌∷◌, drop, Option, Some, None, refl, sym, ap, subst, ◌∙◌, arith}
use Rattle.std.specs.Prelude.{IfSome, option_map, Result, Ok, Err}
use Rattle.std.specs.List.{AllByRecursion}
use Rattle.std.specs.FinMap as map
use Rattle.cj_base.specs.declared.refusal.Refusal.{Refusal}
use Rattle.cj_types.specs.Keys.{Place}
use Rattle.cj_types.specs.Objects.{is_unfinished}
use Rattle.cj_types.specs.declared.cron.CronJob.{CronJob}
use Rattle.cj_types.specs.declared.job.Job.{Job}
use Rattle.cj_types.specs.declared.event.Object.TheVariants as Kind
use Rattle.cj_types.specs.declared.event.Event.{Event}
use Rattle.cj_types.specs.declared.event.Event.TheVariants.{Added, Modified, Deleted}
use Rattle.cj_table.specs.jobs.Owners.{is_job_of}
use Rattle.cj_queue.specs.Parts.{key_eq}
use Rattle.cj_queue.proofs.Sets.{eq_true}
use Rattle.cj_decide.specs.Decision.{Planned}
use Rattle.cj_decide.specs.declared.start.Claim.{Claim}
use Rattle.cj_decide.specs.laws.Laws.{IsIn}
use Rattle.cj_decide.proofs.LawsLemmas.Members.{in_filtered}
use Rattle.cj_calls.specs.declared.call.Call.{Call}
use Rattle.cj_calls.specs.declared.call.Call.TheVariants as Of
use Rattle.cj_calls.specs.declared.reply.Reply.{Reply}
use Rattle.cj_calls.specs.declared.reply.Reply.TheVariants as Is
use Rattle.cj_calls.specs.Rows.{Told}
use Rattle.cj_state.specs.phases.Steps.{Step, drops, makes, sets, step_at}
use Rattle.cj_state.specs.declared.phases.sync.Phase.{Phase}
use Rattle.cj_state.specs.declared.phases.sync.Phase.TheVariants.{Held, Seen, Listed, Checked, Works}
use Rattle.cj_state.specs.declared.phases.sync.InFlight.{InFlight}
use Rattle.cj_state.specs.Readings.{listed_of}
use Rattle.cj_state.specs.Legal.{IsLegal, state_of}
use Rattle.cj_world_laws.specs.legal.InFlightSyncs.{sync}
use Rattle.cj_history.specs.store.Written.{version, made, current_cron, current_job, job_left}
use Rattle.cj_history.specs.store.Writes.{claimed, stepped, stepped_in, stepped_by, written_by, entry_written, with_write, writes}
use Rattle.cj_history.specs.store.Mirrors.{fed, earliest}
use Rattle.cj_history.proofs.StoreLemmas.Lists.{values_all}
use Rattle.cj_history.proofs.StoreLemmas.Stores.{store_agrees}
use Rattle.cj_history.proofs.StoreLemmas.Followed.{mirror_agrees}
use Rattle.cj_history.proofs.StoreLemmas.Answered.{job_keyed}

-- what a write does to a Job: it gives it the next uid, or leaves uid and owners alone and an end
-- as it is
abbrev pub Fair : List Event → Event → Type 0
Fair ws (Added (Kind.Job j)) = j.meta.uid ≡ made ws + 1
Fair ws (Modified (Kind.Job j)) =
    (was : Job) × (current_job ws j.key ≡ Some was) × (j.meta.uid ≡ was.meta.uid) × (j.owners ≡ was.owners)
    × (is_unfinished was ≡ false → is_unfinished j ≡ false)
Fair ws (Added (Kind.Cron c)) = Unit {0}
Fair ws (Modified (Kind.Cron c)) = Unit {0}
Fair ws (Deleted o) = Unit {0}

-- What is written of a CronJob, if there is one, is fair if it is so for any.
of_cron : (ws : List Event) (f : CronJob → Event) (o : Option CronJob) → ((x : CronJob) → Fair ws (f x))
    → IfSome (option_map f o) (Fair ws)
of_cron ws f None h = tt
of_cron ws f (Some x) h = h x

-- What is written of the Job at a key, if there is one, is fair if it is so for the current one.
of_job : (ws : List Event) (k : Place) (f : Job → Event) → ((x : Job) → current_job ws x.key ≡ Some x → Fair ws (f x))
    → IfSome (option_map f (current_job ws k)) (Fair ws)
of_job ws k f h = by (current_job ws k) refl
  where
    by : (o : Option Job) → current_job ws k ≡ o → IfSome (option_map f o) (Fair ws)
    by None e = tt
    by (Some x) e = h x (ap (current_job ws) (job_keyed ws k x e) ∙ e)

-- What a claim writes is fair.
claim_fair : (ws : List Event) (o : Option InFlight) (c : Option Claim) → IfSome (claimed ws o c) (Fair ws)
claim_fair ws None c = tt
claim_fair ws (Some s) None = tt
claim_fair ws (Some s) (Some c) = of_cron ws _ (current_cron ws s.key) (λ x. tt)

-- What a step of a plan writes is fair.
step_fair : (ws : List Event) (k : Place) (p : Planned) (o : Option Step) → IfSome (stepped ws k p o) (Fair ws)
step_fair ws k p None = tt
step_fair ws k p (Some (drops r)) = of_job ws r.key _ (λ x e. tt)
step_fair ws k p (Some (makes d)) = refl
step_fair ws k p (Some (sets s)) = of_cron ws _ (current_cron ws k) (λ x. tt)

-- What a worker writes by the step of its phase is fair.
phase_fair : (ws : List Event) (k : Place) (p : Phase) → IfSome (stepped_in ws k p) (Fair ws)
phase_fair ws k (Works work) = step_fair ws k work.plan (step_at work.plan.steps work.place)
phase_fair ws k Held = tt
phase_fair ws k (Seen c) = tt
phase_fair ws k (Listed c js) = tt
phase_fair ws k (Checked c js ks) = tt

-- What a caller writes by the step of its sync, if it has one, is fair.
sync_fair : (ws : List Event) (o : Option InFlight) → IfSome (stepped_by ws o) (Fair ws)
sync_fair ws None = tt
sync_fair ws (Some s) = phase_fair ws s.key s.phase

-- What an accepted call writes is fair.
call_fair : (ws : List Event) (o : Option InFlight) (call : Call) (r : Reply) → IfSome (written_by ws o call r)
    (Fair ws)
call_fair ws o (Of.CreateCron d now) r = tt
call_fair ws o (Of.UpdateCron d) r = of_cron ws _ (current_cron ws d.key) (λ x. tt)
call_fair ws o (Of.DeleteCron k) r = of_cron ws _ (current_cron ws k) (λ x. tt)
call_fair ws o (Of.CreateJob d now) r = refl
call_fair ws o (Of.UpdateJob d) r = of_job ws d.key _ (λ x e. (x, e, refl, refl, λ f. f))
call_fair ws o (Of.DeleteJob k) r = of_job ws k _ (λ x e. tt)
call_fair ws o (Of.EndJob k u outcome now) r = of_job ws k _ (λ x e. (x, e, refl, refl, λ f. refl))
call_fair ws o (Of.Claim p) (Is.Claimed (Some c)) = claim_fair ws o p.steps.claim
call_fair ws o Of.DropNext (Is.Dropped (Some d)) = sync_fair ws o
call_fair ws o Of.MakeNext r = sync_fair ws o
call_fair ws o Of.SetStatus r = sync_fair ws o
call_fair ws o call r = tt

-- What an entry writes, which is nothing where it was refused, is fair.
pub entry_fair : (ws : List Event) (o : Option InFlight) (call : Call) (a : Result Reply Refusal)
    → IfSome (entry_written ws o call a) (Fair ws)
entry_fair ws o call (Ok r) = call_fair ws o call r
entry_fair ws o call (Err e) = tt

-- each of these was fair after the rest
abbrev pub AreFair : List Event → Type 0
AreFair [] = Unit {0}
AreFair (w ∷ ws) = Fair ws w × AreFair ws

-- Fair writes stay so with one more, or none.
with_fair : (ws : List Event) (o : Option Event) → IfSome o (Fair ws) → AreFair ws → AreFair (with_write o ws)
with_fair ws None h a = a
with_fair ws (Some w) h a = (h, a)

-- The writes of any list of entries were each fair.
pub are_fair : (h : List Told) → AreFair (writes h)
are_fair [] = tt
are_fair (e ∷ h) = with_fair (writes h) _ (entry_fair (writes h) (sync h e.caller.number) e.call e.answer) (are_fair h)

-- The earlier ones of fair writes are fair.
pub fair_rest : (n : ℕ) (ws : List Event) → AreFair ws → AreFair (drop n ws)
fair_rest zero [] a = tt
fair_rest zero (w ∷ ws) a = a
fair_rest (suc n) [] a = tt
fair_rest (suc n) (w ∷ ws) a = fair_rest n ws a.1

-- The earlier ones of some writes made no more objects than all.
pub made_rest : (n : ℕ) (ws : List Event) → made (drop n ws) ≤ made ws
made_rest zero [] = omega arith
made_rest zero (w ∷ ws) = omega arith
made_rest (suc n) [] = omega arith
made_rest (suc n) (Added o ∷ ws) = let i = made_rest n ws in omega (arith, i)
made_rest (suc n) (Modified o ∷ ws) = made_rest n ws
made_rest (suc n) (Deleted o ∷ ws) = made_rest n ws

-- For fair_uid: one write more leaves Jobs whose uids were given out.
uid_step : (w : Event) (ws : List Event) (k : Place) (j : Job) → Fair ws w
    → ((q : Place) (i : Job) → current_job ws q ≡ Some i → i.meta.uid ≤ made ws)
    → job_left w k (current_job ws k) ≡ Some j → j.meta.uid ≤ made (w ∷ ws)
uid_step (Added (Kind.Cron c)) ws k j f h e = let a = h k j e in omega (arith, a)
uid_step (Modified (Kind.Cron c)) ws k j f h e = h k j e
uid_step (Deleted (Kind.Cron c)) ws k j f h e = h k j e
uid_step (Added (Kind.Job x)) ws k j f h e = by (key_eq x.key k) e
  where
    by : (b : Bool) → cond b (Some x) (current_job ws k) ≡ Some j → j.meta.uid ≤ made ws + 1
    by true g =
        let same : x ≡ j = cc g in let u = ap (λ (z : Job). z.meta.uid) same in omega (arith, f, u)
    by false g = let a = h k j g in omega (arith, a)
uid_step (Modified (Kind.Job x)) ws k j f h e = by (key_eq x.key k) e
  where
    by : (b : Bool) → cond b (Some x) (current_job ws k) ≡ Some j → j.meta.uid ≤ made ws
    by true g =
        let same : x ≡ j = cc g in let u = ap (λ (z : Job). z.meta.uid) same in
        let a = h x.key f.0 f.1 in let b = f.2 in omega (arith, u, a, b)
    by false g = h k j g
uid_step (Deleted (Kind.Job x)) ws k j f h e = by (key_eq x.key k) e
  where
    by : (b : Bool) → cond b None (current_job ws k) ≡ Some j → j.meta.uid ≤ made ws
    by true g = absurd (cc g)
    by false g = h k j g

-- The uid of each Job that fair writes left was given out by them.
pub fair_uid : (ws : List Event) → AreFair ws → (k : Place) (j : Job) → current_job ws k ≡ Some j → j.meta.uid ≤ made ws
fair_uid [] a k j e = absurd (cc e)
fair_uid (w ∷ ws) a k j e = uid_step w ws k j a.0 (λ q i f. fair_uid ws a.1 q i f) e

-- no Job at the key has the uid
abbrev pub IsNever : List Event → Place → ℕ → Type 0
IsNever ws q i = (x : Job) → current_job ws q ≡ Some x → x.meta.uid ≢ i

-- For never_with: a uid that was given out, and that the Job at a key hasn't, isn't given to one
-- there by a write.
never_step : (w : Event) (ws : List Event) (q : Place) (i : ℕ) → Fair ws w → i ≤ made ws → IsNever ws q i
    → (x : Job) → job_left w q (current_job ws q) ≡ Some x → x.meta.uid ≢ i
never_step (Added (Kind.Cron c)) ws q i f l n x e = n x e
never_step (Modified (Kind.Cron c)) ws q i f l n x e = n x e
never_step (Deleted (Kind.Cron c)) ws q i f l n x e = n x e
never_step (Added (Kind.Job j)) ws q i f l n x e = by (key_eq j.key q) e
  where
    by : (b : Bool) → cond b (Some j) (current_job ws q) ≡ Some x → x.meta.uid ≢ i
    by true g m =
        let same : j ≡ x = cc g in let u = ap (λ (z : Job). z.meta.uid) same in absurd (omega (arith, f, l, m, u))
    by false g m = n x g m
never_step (Modified (Kind.Job j)) ws q i f l n x e = by (key_eq j.key q) refl e
  where
    by : (b : Bool) → key_eq j.key q ≡ b → cond b (Some j) (current_job ws q) ≡ Some x → x.meta.uid ≢ i
    by true t g m =
        let same : j ≡ x = cc g in
        n f.0 (ap (current_job ws) (sym (eq_true j.key q t)) ∙ f.1)
        (sym f.2 ∙ ap (λ (z : Job). z.meta.uid) same ∙ m)
    by false t g m = n x g m
never_step (Deleted (Kind.Job j)) ws q i f l n x e = by (key_eq j.key q) e
  where
    by : (b : Bool) → cond b None (current_job ws q) ≡ Some x → x.meta.uid ≢ i
    by true g m = absurd (cc g)
    by false g m = n x g m

-- One write more, or none, doesn't give the uid to a Job at the key.
pub never_with : (ws : List Event) (o : Option Event) (q : Place) (i : ℕ) → IfSome o (Fair ws) → i ≤ made ws
    → IsNever ws q i → IsNever (with_write o ws) q i
never_with ws None q i f l n = n
never_with ws (Some w) q i f l n = λ x e. never_step w ws q i f l n x e

-- ---- elements of lists

-- What holds of all elements holds of one.
pub one_of_all : {X : Type 0} (P : X → Type 0) (xs : List X) (x : X) → AllByRecursion P xs → IsIn x xs → P x
one_of_all P [] x a h = absurd h
one_of_all P (y ∷ ys) x a (inl e) = subst P e a.0
one_of_all P (y ∷ ys) x a (inr h) = one_of_all P ys x a.1 h

-- What holds of each element holds of all.
pub all_of_one : {X : Type 0} (P : X → Type 0) (xs : List X) → ((x : X) → IsIn x xs → P x) → AllByRecursion P xs
all_of_one P [] f = tt
all_of_one P (y ∷ ys) f = (f y (inl refl), all_of_one P ys (λ x h. f x (inr h)))

-- ---- the listing

-- After a legal history each Job that the listing has, has a uid that was given out.
pub listed_uid : (window : ℕ) (h : List Told) → IsLegal window h → (k : Place) (j : Job)
    → IsIn j (listed_of (state_of window h) k) → j.meta.uid ≤ (state_of window h).store.uids
listed_uid window h l k j i =
    let a : j.meta.uid ≤ made (writes h) = one_of_all (λ (x : Job). x.meta.uid ≤ made (writes h))
    (map.values (state_of window h).mirror.jobs) j
    (values_all (λ (x : Job). x.key) (λ (x : Job). true) (λ (x : Job). x.meta.uid ≤ made (writes h))
    (state_of window h).mirror.jobs low)
    (in_filtered (is_job_of k) j (map.values (state_of window h).mirror.jobs) i).0 in
    subst (λ n. j.meta.uid ≤ n) (sym (store_agrees window h l).uids) a
  where
    low : (q : Place) (x : Job) → map.get (state_of window h).mirror.jobs q ≡ Some x → x.meta.uid ≤ made (writes h)
    low q x e =
        let n : ℕ = version (writes h) - fed window h in
        let a = fair_uid (earliest (fed window h) (writes h)) (fair_rest n (writes h) (are_fair h)) q x
        (sym ((mirror_agrees window h l).jobs q) ∙ e) in
        let b = made_rest n (writes h) in
        omega (arith, a, b)
