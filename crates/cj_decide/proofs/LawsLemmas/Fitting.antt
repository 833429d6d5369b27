-- Every plan is what a history of syncs needs.
use Rattle.std.proofs.Common.{◌≡◌, ◌∙◌, ◌⊎◌, inl, inr, ap, sym, subst, refl, ℕ, ◌<◌, ◌≤◌, max, unwrap_or, Bool, true, false, ◌&&◌, List, [], ◌∷◌, Option, None, Some, arith}
use Rattle.std.specs.Str.{bytes_eq}
use Rattle.std.proofs.lemmas.Slice.Eq.{bytes_eq-Decides}
use Rattle.cj_types.specs.Keys.{Place, place}
use Rattle.cj_types.specs.Made.{made_name, made_place, owner_of}
use Rattle.cj_types.specs.Owners.{is_cron_reference}
use Rattle.cj_types.specs.Uids.{uid_text}
use Rattle.cj_types.specs.declared.cron.CronJob.{CronJob}
use Rattle.cj_types.specs.declared.cron.CronStatus.{CronStatus}
use Rattle.cj_types.specs.declared.job.Job.{Job}
use Rattle.cj_types.specs.declared.policy.Policy.{Policy}
use Rattle.cj_types.specs.declared.policy.Policy.TheVariants.{Allow, Forbid, Replace}
use Rattle.cj_due.specs.Window.{deadline_start}
use Rattle.cj_status.specs.declared.refs.JobRef.{JobRef}
use Rattle.cj_status.specs.Active.{names_with}
use Rattle.cj_status.specs.Mine.{is_running, present}
use Rattle.cj_status.specs.Picked.{gathered}
use Rattle.cj_status.specs.Refs.{ref, is_older}
use Rattle.cj_decide.specs.declared.start.Claim.{Claim}
use Rattle.cj_decide.specs.declared.steps.Steps.{Steps}
use Rattle.cj_decide.specs.Start.{draft_of, claimed}
use Rattle.cj_decide.specs.Finally.{standing}
use Rattle.cj_decide.specs.Decision.{Planned, IsPlan, IsDecision, running_of}
use Rattle.cj_decide.specs.laws.Laws.{IsIn, IsFoundOf, IsAllowed, IsMadeName, is_replacing, Starts as StartsBy}
use Rattle.cj_decide.specs.laws.Fits.{runs, is_strict, IsAt, IsAmong, IsFoundIn, IsFound, upto, IsMade, Starts, Waits, FitsWith, Keeps, FitsFor, DecidedFits}
use Rattle.cj_decide.proofs.LawsLemmas.Members.{ordered_in, gathered_in, with_one, with_others}
use Rattle.cj_decide.proofs.LawsLemmas.Claims.{claims_latest, no_claim}
use Rattle.cj_decide.proofs.LawsLemmas.Ends.{final_is, names_at_end}

-- A Job that runs for a uid is an unfinished one whose controller has the text of that uid.
runs_is : (u : ℕ) (job : Job) → runs u job ≡ true → is_running (uid_text u) job ≡ true
unfolding runs
runs_is u job h = h

-- ---- what was found is among those that run

-- A Job that stands in a list of references has its key and uid among those named there.
among_in : (rs : List JobRef) (r : JobRef) → IsIn r rs → IsAmong rs r.key r.uid
among_in [] r h = h
among_in (x ∷ rs) r (inl e) = inl (ap (λ (z : JobRef). z.key) e, ap (λ (z : JobRef). z.uid) e)
among_in (x ∷ rs) r (inr h) = inr (among_in rs r h)

record IsThere (u : ℕ) (found : List (Option Job)) (q : Place) (i : ℕ) : Type 0 where
  job : Job
  present : IsIn job (present found)
  runs : is_running (uid_text u) job ≡ true
  key : job.key ≡ q
  uid : job.meta.uid ≡ i

-- What was found unfinished for one of some names is a Job of the live read with that key.
there_in : (u : ℕ) (ns : List ℕ) (names : List (List ℕ)) (found : List (Option Job)) (q : Place) (i : ℕ)
    → IsFoundIn u ns names found q i → IsThere u found q i
there_in u ns [] found q i h = absurd h
there_in u ns (n ∷ names) [] q i h = absurd h
there_in u ns (n ∷ names) (None ∷ found) q i h =
    let k = there_in u ns names found q i h in
    record { job = k.job; present = k.present; runs = k.runs; key = k.key; uid = k.uid }
there_in u ns (n ∷ names) (Some job ∷ found) q i (inl h) =
    record { job = job; present = inl refl; runs = runs_is u job h.runs; key = h.key; uid = h.uid }
there_in u ns (n ∷ names) (Some job ∷ found) q i (inr h) =
    let k = there_in u ns names found q i h in
    record { job = k.job; present = inr k.present; runs = k.runs; key = k.key; uid = k.uid }

-- What was found unfinished for a CronJob's active names is among the Jobs that run.
among_running : (c : CronJob) (found : List (Option Job)) (q : Place) (i : ℕ) → IsFound c found q i
    → IsAmong (running_of c found) q i
among_running c found q i h =
    let k = there_in c.meta.uid c.key.namespace c.status.active found q i h in
    let g = gathered_in (is_running (uid_text c.meta.uid)) (present found) k.job k.runs k.present in
    let a = among_in (running_of c found) (ref k.job)
    (ordered_in is_older (ref k.job) (gathered (is_running (uid_text c.meta.uid)) (present found)) g) in
    subst (λ (x : Place). IsAmong (running_of c found) x i) k.key
    (subst (IsAmong (running_of c found) k.job.key) k.uid a)

-- ---- names as keys

-- A name of a list, with the namespace, is a key that has one of the list's names.
at_of : (ns : List ℕ) (names : List (List ℕ)) (name : List ℕ) → IsIn name names → IsAt ns names (place ns name)
at_of ns [] name h = h
at_of ns (n ∷ names) name (inl e) = inl (ap (place ns) e)
at_of ns (n ∷ names) name (inr h) = inr (at_of ns names name h)

-- Conversely, a key that has one of a list's names has its name in the list, and the namespace.
of_at : (ns : List ℕ) (names : List (List ℕ)) (q : Place) → IsAt ns names q → IsIn q.name names × (place ns q.name ≡ q)
of_at ns [] q h = absurd h
of_at ns (n ∷ names) q (inl e) =
    let same : n ≡ q.name = ap (λ (x : Place). x.name) e in
    (inl same, ap (place ns) (sym same) ∙ e)
of_at ns (n ∷ names) q (inr h) = let k = of_at ns names q h in (inr k.0, k.1)

-- Two tests that hold, hold together.
both : (a b : Bool) → a ≡ true → b ≡ true → a && b ≡ true
both a b e f = rw (e, f) refl

-- Where a Job with a key was found unfinished for one of some names, it was found so for the key's
-- own name, in the given namespace.
found_of : (u : ℕ) (ns : List ℕ) (names : List (List ℕ)) (found : List (Option Job)) (q : Place) (i : ℕ)
    → IsFoundIn u ns names found q i
    → IsFoundOf (uid_text u) names found q.name × (place ns q.name ≡ q)
found_of u ns [] found q i h = absurd h
found_of u ns (n ∷ names) [] q i h = absurd h
found_of u ns (n ∷ names) (None ∷ found) q i h = let k = found_of u ns names found q i h in (inr k.0, k.1)
found_of u ns (n ∷ names) (Some job ∷ found) q i (inl h) =
    let same : n ≡ q.name = ap (λ (x : Place). x.name) h.named in
    let named : job.key.name ≡ n = ap (λ (x : Place). x.name) h.key ∙ sym same in (
      inl (
        same,
        both (bytes_eq job.key.name n) (is_running (uid_text u) job) ((bytes_eq-Decides job.key.name n).1 named)
            (runs_is u job h.runs),
      ),
      ap (place ns) (sym same) ∙ h.named,
    )
found_of u ns (n ∷ names) (Some job ∷ found) q i (inr h) = let k = found_of u ns names found q i h in (inr k.0, k.1)

-- ---- a plan

-- A time above the window's lower end is after the last scheduled time, if there is one.
above_last : (last : Option ℕ) (created d t : ℕ) → max (unwrap_or last created) d < t → upto last ≤ t
above_last None created d t h = omega arith
above_last (Some l) created d t h = omega arith

-- Under Forbid and Replace, drops that the policy allows have all that was found unfinished.
drops_by : (c : CronJob) (found : List (Option Job)) (dropped : List JobRef) (policy : Policy) → is_strict policy ≡ true
    → IsAllowed policy (running_of c found) dropped
    → (q : Place) (i : ℕ) → IsFound c found q i → IsAmong dropped q i
drops_by c found ds Allow s a q i h = absurd (cc)
drops_by c found ds Forbid s a q i h = absurd (subst (λ rs. IsAmong rs q i) a.0 (among_running c found q i h))
drops_by c found ds Replace s a q i h = subst (λ rs. IsAmong rs q i) (sym a) (among_running c found q i h)

-- An option holds one value at most.
some_is : {X : Type 0} (a b : X) (o : Option X) → o ≡ Some a → o ≡ Some b → a ≡ b
some_is a b o e f = cc

-- The owner that a CronJob gives its Jobs is a reference to a CronJob of batch/v1.
a_reference : (c : CronJob) → is_cron_reference (owner_of c) ≡ true
unfolding is_cron_reference
a_reference c = refl

-- The final status has the last schedule time of the status that stands after the claim.
last_kept : (c : CronJob) (jobs : List Job) (found : List (Option Job)) (now : ℕ) (p : Planned) (f : CronStatus)
    → IsDecision c p.jobs p.active p.at p.zone p.steps → p.steps.status ≡ Some f
    → f.last_schedule_time ≡ (standing c p.steps.claim).last_schedule_time
last_kept c jobs found now p f d is =
    ap (λ (x : CronStatus). x.last_schedule_time) (final_is c p.jobs p.active p.at p.zone p.steps f d is)
    ∙ ap (λ (x : Option Claim). (standing c x).last_schedule_time) (sym (ap (λ (x : Steps). x.claim) d.meant.are))

-- Where two last times are the same, the one is not after the other.
no_later : (a b : Option ℕ) → b ≡ a → upto a ≤ upto b
no_later a b e = let same = ap upto e in omega arith

-- The Job of a claimed time has the CronJob as its controller, and both statuses name it.
made_is : (p : Planned) (c : CronJob) (y : Claim) (d : IsDecision c p.jobs p.active p.at p.zone p.steps)
    → p.steps.claim ≡ Some y
    → y.status ≡ claimed c y.time → IsMade p c y (draft_of c y.time)
made_is p c y d h s = record {
  owner = owner_of c;
  controller = refl;
  uid = refl;
  reference = a_reference c;
  name = refl;
  namespace = refl;
  named = subst (λ (x : CronStatus). IsAt c.key.namespace x.active (made_place c.key y.time)) (sym s)
      (at_of c.key.namespace (names_with (made_name c.key.name y.time) c.status.active) (made_name c.key.name y.time)
      (with_one (made_name c.key.name y.time) c.status.active));
  final = λ f is. at_of c.key.namespace f.active (made_name c.key.name y.time)
      ((names_at_end c p.jobs p.active p.at p.zone p.steps f d is (made_name c.key.name y.time)).all
      (inr (subst (λ o. IsMadeName c o (made_name c.key.name y.time)) (sym h) refl)));
}

-- A plan that claims a time is what a history of syncs needs of such a plan.
starts : (p : Planned) (c : CronJob) (y : Claim) (d : IsDecision c p.jobs p.active p.at p.zone p.steps)
    → p.steps.claim ≡ Some y → Starts p c y
starts p c y d h =
    let b : StartsBy c p.active p.at p.zone p.steps y = claims_latest c p.jobs p.active p.at p.zone p.steps y d h in
    record {
      later = above_last c.status.last_schedule_time c.meta.created
          (deadline_start c.spec.starting_deadline_seconds p.at) y.time b.due.latest.above;
      says = ap (λ (x : CronStatus). x.last_schedule_time) b.status;
      drops = λ s q i l. drops_by c p.active p.steps.drop_first c.spec.policy s b.allowed q i l;
      more = λ q k. more q (sym b.status) (of_at c.key.namespace c.status.active q k);
      makes = λ e is. subst (IsMade p c y) (some_is (draft_of c y.time) e p.steps.make b.make is)
          (made_is p c y d h b.status);
      final = λ f is. no_later y.status.last_schedule_time f.last_schedule_time
          (last_kept c p.jobs p.active p.at p f d is ∙ ap (λ (x : Option Claim). (standing c x).last_schedule_time) h);
    }
  where
    more : (q : Place) → claimed c y.time ≡ y.status → IsIn q.name c.status.active × (place c.key.namespace q.name ≡ q)
        → IsAt c.key.namespace y.status.active q
    more q s k = subst (IsAt c.key.namespace y.status.active) k.1
        (subst (λ (x : CronStatus). IsAt c.key.namespace x.active (place c.key.namespace q.name)) s
        (at_of c.key.namespace (names_with (made_name c.key.name y.time) c.status.active) q.name
        (with_others (made_name c.key.name y.time) c.status.active q.name k.0)))

-- A plan that claims no time is what a history of syncs needs of one that claims none.
waits : (p : Planned) (c : CronJob) (d : IsDecision c p.jobs p.active p.at p.zone p.steps) → p.steps.claim ≡ None
    → Waits p c
waits p c d h =
    let r = no_claim (Some c) p.jobs p.active p.at p.zone p.steps d h in
    record {
      makes = r.make;
      drops = r.drops;
      final = λ f is. no_later c.status.last_schedule_time f.last_schedule_time
          (last_kept c p.jobs p.active p.at p f d is ∙ ap (λ (x : Option Claim). (standing c x).last_schedule_time) h);
    }

-- A plan is what a history needs by its claim, or where it has none.
fits_with : (p : Planned) (c : CronJob) (d : IsDecision c p.jobs p.active p.at p.zone p.steps) (o : Option Claim)
    → p.steps.claim ≡ o → FitsWith p c o
fits_with p c d None h = waits p c d h
fits_with p c d (Some y) h = starts p c y d h

-- Where a claim takes the place of what runs, all that was found unfinished is dropped.
replaced : (c : CronJob) (found : List (Option Job)) (ds : List JobRef) (policy : Policy) (o : Option Claim)
    → is_replacing policy o ≡ true → ((y : Claim) → o ≡ Some y → IsAllowed policy (running_of c found) ds)
    → (q : Place) (i : ℕ) → IsFound c found q i → IsAmong ds q i
replaced c found ds policy None e a q i h = absurd (cc)
replaced c found ds Allow (Some y) e a q i h = absurd (cc)
replaced c found ds Forbid (Some y) e a q i h = absurd (cc)
replaced c found ds Replace (Some y) e a q i h = drops_by c found ds Replace refl (a y refl) q i h

-- All that the live read found unfinished is named in the final status, or dropped.
keeps : (p : Planned) (c : CronJob) → IsDecision c p.jobs p.active p.at p.zone p.steps → Keeps p c
keeps p c d f is q i h = by (is_replacing c.spec.policy p.steps.claim) refl
  where
    by : (b : Bool) → is_replacing c.spec.policy p.steps.claim ≡ b → IsAt c.key.namespace f.active q
        ⊎ IsAmong p.steps.drop_first q i
    by true e = inr (replaced c p.active p.steps.drop_first c.spec.policy p.steps.claim e
        (λ y k. (claims_latest c p.jobs p.active p.at p.zone p.steps y d k).allowed) q i h)
    by false e =
        let k = found_of c.meta.uid c.key.namespace c.status.active p.active q i h in
        inl (subst (IsAt c.key.namespace f.active) k.1
        (at_of c.key.namespace f.active q.name
        ((names_at_end c p.jobs p.active p.at p.zone p.steps f d is q.name).all (inl (e, k.0)))))

-- A plan for a CronJob, or for none, is what a history needs.
fits_for : (p : Planned) (o : Option CronJob) → IsPlan o p.jobs p.active p.at p.zone p.steps → FitsFor p o
fits_for p None e = record {
  makes = ap (λ (x : Steps). x.make) e;
  claim = ap (λ (x : Steps). x.claim) e;
  final = ap (λ (x : Steps). x.status) e;
}
fits_for p (Some c) d = (fits_with p c d p.steps.claim refl, keeps p c d)

-- For fits_law: every decided plan is what a history of syncs needs.
pub decided_fits : DecidedFits
decided_fits p h = fits_for p p.cron h
