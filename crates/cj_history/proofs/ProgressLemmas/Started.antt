-- A sync whose plan claims a time makes its Job, where the name is free, whatever others call
-- aside.
use Rattle.std.proofs.Common.{◌≡◌, ◌≢◌, ◌⊎◌, inl, inr, ℕ, ◌+◌, ◌<◌, ◌≤◌, Bool, true, false, cond, ◌&&◌, List, [], ◌∷◌, ◌++◌, map as map_list, Option, Some, None, refl, sym, ap, subst, ◌∙◌, arith}
use Rattle.std.specs.Prelude.{if◌then◌else◌}
use Rattle.std.proofs.lemmas.Slice.Eq.{bytes_eq-Decides}
use Rattle.std.specs.List.{AllByRecursion}
use Rattle.std.specs.FinMap as map
use Rattle.cj_types.specs.Keys.{Place, place}
use Rattle.cj_types.specs.Made.{made_place}
use Rattle.cj_types.specs.Uids.{uid_text}
use Rattle.cj_types.specs.declared.cron.CronJob.{CronJob}
use Rattle.cj_types.specs.declared.cron.CronStatus.{CronStatus}
use Rattle.cj_types.specs.declared.job.Job.{Job}
use Rattle.cj_types.specs.declared.job.JobDraft.{JobDraft}
use Rattle.cj_store.specs.Content.{Content}
use Rattle.cj_store.specs.Change.{after, cron_modified, job_added}
use Rattle.cj_store.specs.Crons.{with_status}
use Rattle.cj_store.specs.Jobs.{new_job}
use Rattle.cj_queue.specs.Parts.{key_eq}
use Rattle.cj_queue.proofs.Sets.{get_off}
use Rattle.cj_types.specs.declared.policy.Policy.{Policy}
use Rattle.cj_types.specs.declared.policy.Policy.TheVariants.{Allow, Forbid, Replace}
use Rattle.cj_status.specs.declared.listing.Pick.TheVariants as Meant
use Rattle.cj_status.specs.declared.order.Sorting.TheVariants.{ByAge}
use Rattle.cj_status.specs.declared.refs.JobRef.{JobRef}
use Rattle.cj_status.specs.Picked.{picks, gathered}
use Rattle.cj_status.specs.Refs.{precedes}
use Rattle.cj_decide.proofs.LawsLemmas.Members.{in_left, in_parts, in_ordered, in_gathered}
use Rattle.cj_status.specs.Mine.{has_uid, is_mine, is_running, present}
use Rattle.cj_decide.specs.declared.start.Claim.{Claim}
use Rattle.cj_decide.specs.declared.steps.Steps.{Steps}
use Rattle.cj_decide.specs.Start.{claim_of, draft_of}
use Rattle.cj_decide.specs.Finally.{standing, final, IsStatusStep}
use Rattle.cj_decide.specs.Decision.{Planned, IsPlan, IsDecided, IsDecision, claim_by, running_of}
use Rattle.cj_decide.specs.laws.Laws.{IsIn, IsAllowed}
use Rattle.cj_decide.specs.laws.Fits.{IsAt, FitsFor, FitsWith, Starts}
use Rattle.cj_decide.proofs.LawsLemmas.Claims.{claims_latest}
use Rattle.cj_decide.proofs.LawsLemmas.Ends.{cleans_finished}
use Rattle.cj_decide.proofs.LawsLemmas.Fitting.{decided_fits}
use Rattle.cj_calls.specs.declared.call.Call.TheVariants as Of
use Rattle.cj_calls.specs.Rows.{Told}
use Rattle.cj_state.specs.phases.Steps.{Step, drops, makes, sets, makings, settings, all_steps}
use Rattle.cj_state.specs.declared.phases.sync.InFlight.{InFlight}
use Rattle.cj_state.specs.declared.phases.sync.Phase.{Phase}
use Rattle.cj_state.specs.declared.phases.sync.Phase.TheVariants.{Held, Seen, Listed, Checked}
use Rattle.cj_state.specs.declared.state.State.{State}
use Rattle.cj_state.specs.Readings.{listed_of, if_mine, active_job, active_of}
use Rattle.cj_state.specs.WorkerCalls.{sync_of, with_sync, written, works}
use Rattle.cj_state.specs.Legal.{IsLegal, state_of}
use Rattle.cj_world_laws.proofs.LegalLemmas.Inputs.{rests_exactly}
use Rattle.cj_world_laws.proofs.LegalLemmas.HeldSyncs.{syncs_agree}
use Rattle.cj_world_laws.proofs.OnceLemmas.Maps.{put_at, put_here, removal_at, removal_other, sync_here}
use Rattle.cj_history.specs.store.Writes.{writes}
use Rattle.cj_history.specs.progress.Syncs.{calls_left, readings, works_off, IsStarted, IsTidied, IsReplaced, IsMade, PlansMakeJob}
use Rattle.cj_history.proofs.StoreLemmas.Stores.{store_agrees}
use Rattle.cj_history.proofs.StoreLemmas.Answered.{cron_keyed}
use Rattle.cj_history.proofs.ProgressLemmas.Missed.{claims_due}
use Rattle.cj_history.proofs.ProgressLemmas.Ages.{IsSettled}
use Rattle.cj_history.proofs.ProgressLemmas.Fair.{all_of_one}
use Rattle.cj_history.proofs.ProgressLemmas.Calls.{in_flight, see_cron_is, see_jobs_is, see_active_is, claim_is, Dropped, absent, found}
use Rattle.cj_history.proofs.ProgressLemmas.Aside.{AreKeyed, Same, Goes, goes, goes_leads}
use Rattle.cj_history.proofs.ProgressLemmas.Tidy.{IsTidy, tidy_still, tidy_kept, tidy_made, tidied, still_gone}
use Rattle.cj_history.proofs.ProgressLemmas.Steps.{Going, drops_go, make_goes, status_goes, finish_goes}

-- ---- before the Job is made

-- its name is free, its CronJob stands, and so many uids were given out
pub record IsFree (u : ℕ) (k : Place) (c : CronJob) (q : Place) (rs : List JobRef) (s : Content) : Type 0 where
  pub free : map.get s.jobs q ≡ None
  pub cron : map.get s.crons k ≡ Some c
  pub uids : u ≤ s.uids
  pub keys : AreKeyed s

-- Where nothing stands, nothing does after a removal.
off_none : (b : Bool) (o : Option Job) → o ≡ None → cond b None o ≡ None
off_none true o e = refl
off_none false o e = e

-- A drop leaves the name free.
free_kept : (u : ℕ) (k : Place) (c : CronJob) (q : Place) (r : JobRef) (rs : List JobRef) (a b : Content)
    → Dropped a r b
    → IsFree u k c q (r ∷ rs) a → IsFree u k c q rs b
free_kept u k c q r rs a b (absent e n) f =
    subst (IsFree u k c q rs) (sym e) (record { free = f.free; cron = f.cron; uids = f.uids; keys = f.keys })
free_kept u k c q r rs a b (found j at same e) f =
    subst (IsFree u k c q rs) (sym e) (record {
      free = get_off a.jobs j.key q ∙ off_none (key_eq j.key q) (map.get a.jobs q) f.free;
      cron = f.cron;
      uids = f.uids;
      keys = λ i x h. f.keys i x (removal_at a.jobs j.key i x h).1;
    })

-- What others leave leaves it free.
free_still : (w u : ℕ) (k : Place) (c : CronJob) (q : Place) (rs : List JobRef) (s t : State) → Same w k (Some q) s t
    → IsFree u k c q rs s.store → IsFree u k c q rs t.store
free_still w u k c q rs s t same f = record {
  free = same.job ∙ f.free;
  cron = same.cron ∙ f.cron;
  uids = (let a = f.uids in let b = same.more in omega (arith, a, b));
  keys = same.keys;
}

-- ---- after it is made

-- the Job stands, which is newer than those that are still to be dropped, and its CronJob
pub record IsThere (u : ℕ) (k : Place) (c : CronJob) (q : Place) (j : Job) (rs : List JobRef) (s : Content)
    : Type 0 where
  pub old : AllByRecursion (λ r. r.uid ≤ u) rs
  pub new : u < j.meta.uid
  pub job : map.get s.jobs q ≡ Some j
  pub cron : map.get s.crons k ≡ Some c
  pub keys : AreKeyed s

-- A drop of an older Job leaves it there.
there_kept : (u : ℕ) (k : Place) (c : CronJob) (q : Place) (j : Job) (r : JobRef) (rs : List JobRef) (a b : Content)
    → Dropped a r b → IsThere u k c q j (r ∷ rs) a → IsThere u k c q j rs b
there_kept u k c q j r rs a b (absent e n) f =
    subst (IsThere u k c q j rs) (sym e) (record { old = f.old.1; new = f.new; job = f.job; cron = f.cron; keys = f.keys })
there_kept u k c q j r rs a b (found x at same e) f =
    subst (IsThere u k c q j rs) (sym e) (record {
      old = f.old.1;
      new = f.new;
      job = removal_other a.jobs x.key q apart ∙ f.job;
      cron = f.cron;
      keys = λ i y h. f.keys i y (removal_at a.jobs x.key i y h).1;
    })
  where
    apart : q ≢ x.key
    apart g =
        let here : map.get a.jobs r.key ≡ Some j = ap (map.get a.jobs) (sym (g ∙ f.keys r.key x at)) ∙ f.job in
        let one : j ≡ x = cc (sym here ∙ at) in
        let i = ap (λ (z : Job). z.meta.uid) one in
        let l = f.old.0 in
        let m = f.new in
        absurd (omega (arith, i, l, m, same))

-- What others leave leaves it there.
there_still : (w u : ℕ) (k : Place) (c : CronJob) (q : Place) (j : Job) (rs : List JobRef) (s t : State)
    → Same w k (Some q) s t → IsThere u k c q j rs s.store → IsThere u k c q j rs t.store
there_still w u k c q j rs s t same f = record {
  old = f.old;
  new = f.new;
  job = same.job ∙ f.job;
  cron = same.cron ∙ f.cron;
  keys = same.keys;
}

-- After the making of a Job, all that is to be dropped being older, it is there.
there_made : (u : ℕ) (k : Place) (c : CronJob) (d : JobDraft) (at : ℕ) (rs : List JobRef) (s : Content)
    → AllByRecursion (λ r. r.uid ≤ u) rs → IsFree u k c d.key [] s
    → IsThere u k c d.key (new_job s d at) rs (after s (job_added (new_job s d at)))
there_made u k c d at rs s old f = record {
  old = old;
  new = (let e = f.uids in omega (arith, e));
  job = put_here s.jobs d.key (new_job s d at);
  cron = f.cron;
  keys = λ i x h. by i x (put_at s.jobs d.key i (new_job s d at) x h);
}
  where
    by : (i : Place) (x : Job) → ((i ≡ d.key) × (new_job s d at ≡ x)) ⊎ ((i ≢ d.key) × (map.get s.jobs i ≡ Some x))
        → x.key ≡ i
    by i x (inl e) = ap (λ (z : Job). z.key) (sym e.1) ∙ sym e.0
    by i x (inr e) = f.keys i x e.1

-- ---- what the plan says

-- a plan that claims a time
pub record Starting (p : Planned) (cron : CronJob) (y : Claim) : Type 0 where
  pub make : p.steps.make ≡ Some (draft_of cron y.time)
  pub last : y.status.last_schedule_time ≡ Some y.time
  pub active : IsAt cron.key.namespace y.status.active (made_place cron.key y.time)
  pub final_last : (f : CronStatus) → p.steps.status ≡ Some f → f.last_schedule_time ≡ Some y.time
  pub final_active : (f : CronStatus) → p.steps.status ≡ Some f
      → IsAt cron.key.namespace f.active (made_place cron.key y.time)
  pub allowed : IsAllowed cron.spec.policy (running_of cron p.active) p.steps.drop_first
  pub runs : (s : Content) (at : ℕ) → is_running (uid_text cron.meta.uid) (new_job s (draft_of cron y.time) at) ≡ true

-- A plan of a CronJob is the decision for it.
pub plan_of : (p : Planned) (cron : CronJob) → IsDecided p → p.cron ≡ Some cron
    → IsPlan (Some cron) p.jobs p.active p.at p.zone p.steps
plan_of p cron d e = subst (λ (o : Option CronJob). IsPlan o p.jobs p.active p.at p.zone p.steps) e d

-- The final status of a plan that claims a time has the time as its last.
final_time : (p : Planned) (cron : CronJob) (y : Claim) → IsDecision cron p.jobs p.active p.at p.zone p.steps
    → p.steps.claim ≡ Some y → y.status.last_schedule_time ≡ Some y.time → (f : CronStatus) → p.steps.status ≡ Some f
    → f.last_schedule_time ≡ Some y.time
final_time p cron y d claim last f is =
    let are = d.meant.are in
    let by : claim_by cron d.start ≡ Some y = sym (ap (λ (x : Steps). x.claim) are) ∙ claim in
    let step = subst (IsStatusStep (standing cron (claim_by cron d.start))
    (final cron p.jobs p.active d.start (claim_by cron d.start)))
    (sym (ap (λ (x : Steps). x.status) are) ∙ is) d.meant.changes in
    ap (λ (x : CronStatus). x.last_schedule_time) step.0
    ∙ ap (λ (o : Option Claim). (standing cron o).last_schedule_time) by ∙ last

-- Where two tests are true, they are so together.
both_true : (a b : Bool) → a ≡ true → b ≡ true → (a && b) ≡ true
both_true true b e f = f
both_true false b e f = absurd (cc e)

-- A plan that claims a time makes its Job, and names it.
pub starting : (p : Planned) (cron : CronJob) (y : Claim) → IsDecided p → p.cron ≡ Some cron → p.steps.claim ≡ Some y
    → Starting p cron y
starting p cron y decided seen claim =
    let plan = plan_of p cron decided seen in
    let latest = claims_latest cron p.jobs p.active p.at p.zone p.steps y plan claim in
    let fits : Starts p cron y = subst (FitsWith p cron) claim (subst (FitsFor p) seen (decided_fits p decided)).0 in
    let made = fits.makes (draft_of cron y.time) latest.make in
    let last : y.status.last_schedule_time ≡ Some y.time
    = ap (λ (x : CronStatus). x.last_schedule_time) latest.status in
    record {
      make = latest.make;
      last = last;
      active = made.named;
      final_last = final_time p cron y plan claim last;
      final_active = made.final;
      allowed = latest.allowed;
      runs = λ s at. both_true (is_mine (uid_text cron.meta.uid) (new_job s (draft_of cron y.time) at)) true
          (ap (has_uid (uid_text cron.meta.uid)) made.controller
          ∙ (bytes_eq-Decides made.owner.uid (uid_text cron.meta.uid)).1 made.uid) refl;
    }

-- ---- the readings

-- What the live read finds has a uid that was given out.
found_low : (s : Content) (uid namespace : List ℕ) (names : List (List ℕ))
    → ((q : Place) (x : Job) → map.get s.jobs q ≡ Some x → x.meta.uid ≤ s.uids)
    → (j : Job) → IsIn j (present (map_list (active_job s uid namespace) names)) → j.meta.uid ≤ s.uids
found_low s uid namespace [] f j h = absurd h
found_low s uid namespace (n ∷ names) f j h =
    by (map.get s.jobs (place namespace n)) refl (λ i. found_low s uid namespace names f j i) h
  where
    here : (x : Job) → map.get s.jobs (place namespace n) ≡ Some x → (b : Bool)
        → (IsIn j (present (map_list (active_job s uid namespace) names)) → j.meta.uid ≤ s.uids)
        → IsIn j (present ((if b then Some x else None) ∷ map_list (active_job s uid namespace) names))
        → j.meta.uid ≤ s.uids
    here x e true rest (inl same) = subst (λ (z : Job). z.meta.uid ≤ s.uids) same (f (place namespace n) x e)
    here x e true rest (inr i) = rest i
    here x e false rest i = rest i

    by : (o : Option Job) → map.get s.jobs (place namespace n) ≡ o
        → (IsIn j (present (map_list (active_job s uid namespace) names)) → j.meta.uid ≤ s.uids)
        → IsIn j (present (if_mine uid o ∷ map_list (active_job s uid namespace) names)) → j.meta.uid ≤ s.uids
    by None e rest i = rest i
    by (Some x) e rest i = here x e (is_mine uid x) rest i

-- what a worker that made its readings knows: its CronJob stands, the live read found what stands
-- of its active names, and the Jobs that were listed have uids that were given out
pub record IsRead (w : ℕ) (k : Place) (cron : CronJob) (s : State) : Type 0 where
  pub jobs : List Job
  pub live : List (Option Job)
  pub sync : sync_of s w ≡ Some (in_flight k (Checked (Some cron) jobs live))
  pub stands : map.get s.store.crons k ≡ Some cron
  pub found : live ≡ active_of s.store (Some cron)
  pub old : (j : Job) → IsIn j jobs → j.meta.uid ≤ s.store.uids
  pub low : (j : Job) → IsIn j (present live) → j.meta.uid ≤ s.store.uids
  pub settled : (j : Job) → IsIn j jobs → IsSettled j s.store

-- w is the worker, k its key, and cron the CronJob there.
module _ (w : ℕ) (k : Place) (cron : CronJob) where
  -- A SeeActive after the listing ends the readings.
  active_goes : (s : State) (js : List Job) → sync_of s w ≡ Some (in_flight k (Listed (Some cron) js))
      → map.get s.store.crons k ≡ Some cron → ((j : Job) → IsIn j js → j.meta.uid ≤ s.store.uids)
      → ((j : Job) → IsIn j js → IsSettled j s.store)
      → Goes w k None s (Of.SeeActive ∷ []) (IsRead w k cron)
  active_goes s js sync at old ends = goes w k None s Of.SeeActive [] (IsRead w k cron) (λ t same. record {
    handled = _;
    is = see_active_is t w k (Some cron) js (same.sync ∙ sync);
    accepted = refl;
    goes = record {
      jobs = js;
      live = active_of t.store (Some cron);
      sync = sync_here t.syncs w (in_flight k (Checked (Some cron) js (active_of t.store (Some cron))));
      stands = same.cron ∙ at;
      found = refl;
      settled = λ j i. same.ages j (old j i) (ends j i);
      old = λ j i. (let a = old j i in let b = same.more in omega (arith, a, b));
      low = λ j i. found_low t.store (uid_text cron.meta.uid) cron.key.namespace cron.status.active same.stored j i;
    };
  })

  -- A SeeJobs after the CronJob was seen, and the SeeActive after it, are answered.
  jobs_go : (s : State) → sync_of s w ≡ Some (in_flight k (Seen (Some cron))) → map.get s.store.crons k ≡ Some cron
      → Goes w k None s (Of.SeeJobs ∷ Of.SeeActive ∷ []) (IsRead w k cron)
  jobs_go s sync at = goes w k None s Of.SeeJobs (Of.SeeActive ∷ []) (IsRead w k cron) (λ t same. record {
    handled = _;
    is = see_jobs_is t w k (Some cron) (same.sync ∙ sync);
    accepted = refl;
    goes = active_goes (with_sync t w k (Listed (Some cron) (listed_of t k))) (listed_of t k)
        (sync_here t.syncs w (in_flight k (Listed (Some cron) (listed_of t k))))
        (same.cron ∙ at) same.given same.settled;
  })

  -- After its Take a worker's readings are answered.
  pub readings_go : (s : State) → sync_of s w ≡ Some (in_flight k Held) → map.get s.store.crons k ≡ Some cron
      → Goes w k None s readings (IsRead w k cron)
  readings_go s sync at = goes w k None s Of.SeeCron (Of.SeeJobs ∷ Of.SeeActive ∷ []) (IsRead w k cron)
      (λ t same. record {
        handled = _;
        is = see_cron_is t w k (same.sync ∙ sync);
        accepted = refl;
        goes = jobs_go (with_sync t w k (Seen (map.get t.store.crons k)))
            (sync_here t.syncs w (in_flight k (Seen (map.get t.store.crons k)))
            ∙ ap (λ (o : Option CronJob). Some (in_flight k (Seen o))) (same.cron ∙ at))
            (same.cron ∙ at);
      })

-- ---- the steps

-- What stands in the second of two joined lists stands in both.
in_right : (x : JobRef) (xs ys : List JobRef) → IsIn x ys → IsIn x (xs ++ ys)
in_right x [] ys i = i
in_right x (y ∷ xs) ys i = inr (in_right x xs ys i)

-- all that a plan drops, first or as its clean-up
abbrev pub all_dropped : Planned → List JobRef
all_dropped p = p.steps.drop_first ++ p.steps.cleanup

-- s is the state at the claim, w the worker, k the key, cron its CronJob, p the plan, and y its
-- claim; so many uids were given out when the Jobs were listed.
module _ (s : State) (u w : ℕ) (k : Place) (cron : CronJob) (p : Planned) (y : Claim) (start : Starting p cron y)
    (key : cron.key ≡ k) (seen : p.cron ≡ Some cron) (olds : (r : JobRef) → IsIn r (all_dropped p) → r.uid ≤ u) where
  -- the CronJob that the claim leaves
  abbrev new : CronJob
  new = with_status s.store y.status cron

  -- its version
  abbrev v : ℕ
  v = s.store.version + 1

  -- the Job's draft
  abbrev d : JobDraft
  d = draft_of cron y.time

  abbrev Q : State → Type 0
  Q t = IsStarted t.store k cron y.time × IsTidied (all_dropped p) t.store

  -- the Job stands, and what was cleaned up so far is gone
  abbrev Left : Job → List JobRef → Content → Type 0
  Left j rs t = IsThere u k new d.key j rs t × IsTidy u (all_dropped p) rs t

  -- the name is free, and what was dropped so far is gone
  abbrev Freed : List JobRef → Content → Type 0
  Freed rs t = IsFree u k new d.key rs t × IsTidy u (all_dropped p) (rs ++ p.steps.cleanup) t

  -- A CronJob that is put at its key stands at the one that the worker holds.
  put_key : (t : Content) (c : CronJob) → c.key ≡ cron.key → map.get (map.insert t.crons c.key c) k ≡ Some c
  put_key t c e = ap (map.get (map.insert t.crons c.key c)) (sym (e ∙ key)) ∙ put_here t.crons c.key c

  -- With no status left to set, the sync ends as it should.
  settle_none : (j : Job) (e : List Step) (t : State) → is_running (uid_text cron.meta.uid) j ≡ true
      → Going w k p v t e [] → Left j [] t.store
      → Goes w k (Some d.key) t (calls_left p.steps.reasons []) Q
  settle_none j e t runs g f =
      finish_goes w k (Some d.key) p v p.steps.reasons Q e t g (λ a z same left.
      subst (λ (x : Content). IsStarted x k cron y.time × IsTidied (all_dropped p) x) (sym left) (
        record {
          job = j;
          made = same.job ∙ f.0.job;
          runs = runs;
          now = new;
          stands = same.cron ∙ f.0.cron;
          uid = refl;
          last = start.last;
          active = start.active;
        },
        still_gone w u k (Some d.key) (all_dropped p) olds t a same f.1.uids (tidied u (all_dropped p) t.store f.1),
      ))

  -- With a status to set, it does so too.
  settle_some : (st : CronStatus) → p.steps.status ≡ Some st → (j : Job) (e : List Step) (t : State)
      → is_running (uid_text cron.meta.uid) j ≡ true
      → Going w k p v t e (sets st ∷ []) → Left j [] t.store
      → Goes w k (Some d.key) t (calls_left p.steps.reasons (sets st ∷ [])) Q
  settle_some st is j e t runs g f =
      status_goes w k (Some d.key) p v p.steps.reasons Q st cron new e t g seen f.0.cron refl refl
      (λ a b e2 same g2 left.
      finish_goes w k (Some d.key) p v p.steps.reasons Q e2 b g2 (λ a2 z same2 left2.
      let jobs : map.get b.store.jobs d.key ≡ Some j =
      ap (λ (x : Content). map.get x.jobs d.key) left ∙ same.job ∙ f.0.job in
      let crons : map.get b.store.crons k ≡ Some (with_status a.store st new) =
      ap (λ (x : Content). map.get x.crons k) left ∙ put_key a.store (with_status a.store st new) refl in
      let gone : IsTidied (all_dropped p) b.store = subst (λ (x : Content). IsTidied (all_dropped p) x) (sym left)
      (still_gone w u k (Some d.key) (all_dropped p) olds t a same f.1.uids (tidied u (all_dropped p) t.store f.1)) in
      let low : u ≤ b.store.uids = subst (λ (x : Content). u ≤ x.uids) (sym left)
      (let c = f.1.uids in let m = same.more in omega (arith, c, m)) in
      subst (λ (x : Content). IsStarted x k cron y.time × IsTidied (all_dropped p) x) (sym left2) (
        record {
          job = j;
          made = same2.job ∙ jobs;
          runs = runs;
          now = with_status a.store st new;
          stands = same2.cron ∙ crons;
          uid = refl;
          last = start.final_last st is;
          active = start.final_active st is;
        },
        still_gone w u k (Some d.key) (all_dropped p) olds b a2 same2 low gone,
      )))

  -- With the status to set, if there is one, the sync ends as it should.
  settle : (o : Option CronStatus) → p.steps.status ≡ o → (j : Job) (e : List Step) (t : State)
      → is_running (uid_text cron.meta.uid) j ≡ true
      → Going w k p v t e (settings o) → Left j [] t.store
      → Goes w k (Some d.key) t (calls_left p.steps.reasons (settings o)) Q
  settle None is j e t runs g f = settle_none j e t runs g f
  settle (Some st) is j e t runs g f = settle_some st is j e t runs g f

  -- The clean-up is accepted, and leaves the Job.
  cleanup_goes : (e : List Step) (t z : State)
      → Going w k p v z e (map_list drops p.steps.cleanup ++ settings p.steps.status)
      → z.store ≡ after t.store (job_added (new_job t.store d p.at)) → IsFree u k new d.key [] t.store
      → IsTidy u (all_dropped p) p.steps.cleanup t.store
      → Goes w k (Some d.key) z (calls_left p.steps.reasons (map_list drops p.steps.cleanup ++ settings p.steps.status))
      Q
  cleanup_goes e t z g is f tidy =
      let j : Job = new_job t.store d p.at in
      let there : IsThere u k new d.key j p.steps.cleanup (after t.store (job_added j)) =
      there_made u k new d p.at p.steps.cleanup t.store (all_of_one (λ (r : JobRef). r.uid ≤ u) p.steps.cleanup
      (λ r i. olds r (in_right r p.steps.drop_first p.steps.cleanup i))) f in
      drops_go w k (Some d.key) p v p.steps.reasons Q (Left j)
      (λ rs a b same l. (
        there_still w u k new d.key j rs a b same l.0,
        tidy_still w u k (Some d.key) (all_dropped p) olds rs a b same l.1,
      ))
      (λ r rs a b m l. (there_kept u k new d.key j r rs a b m l.0, tidy_kept u (all_dropped p) r rs a b m l.1))
      p.steps.cleanup (settings p.steps.status) e z g
      (subst (Left j p.steps.cleanup) (sym is)
      (there, tidy_made u (all_dropped p) p.steps.cleanup olds t.store d p.at tidy))
      (λ a e2 g2 f2. settle p.steps.status refl j e2 a (start.runs t.store p.at) g2 f2)

  -- The making is accepted, and so is what comes after it.
  making_goes : (e : List Step) (t : State)
      → Going w k p v t e (makes d ∷ (map_list drops p.steps.cleanup ++ settings p.steps.status))
      → IsFree u k new d.key [] t.store → IsTidy u (all_dropped p) p.steps.cleanup t.store
      → Goes w k (Some d.key) t
      (calls_left p.steps.reasons (makes d ∷ (map_list drops p.steps.cleanup ++ settings p.steps.status))) Q
  making_goes e t g f tidy =
      make_goes w k (Some d.key) p v p.steps.reasons Q d (map_list drops p.steps.cleanup ++ settings p.steps.status) e t
      g (λ a same. same.job ∙ f.free)
      (λ a z e2 same g2 is. cleanup_goes e2 a z g2 is (free_still w u k new d.key [] t a same f)
      (tidy_still w u k (Some d.key) (all_dropped p) olds p.steps.cleanup t a same tidy))

  -- The steps of the plan are all accepted, and the Job is made.
  steps_go : (t : State) → t.store ≡ after s.store (cron_modified new)
      → Going w k p v t [] (all_steps p.steps) → AreKeyed s.store
      → map.get s.store.jobs d.key ≡ None → u ≤ s.store.uids
      → Goes w k (Some d.key) t (calls_left p.steps.reasons (all_steps p.steps)) Q
  steps_go t is g keys free low =
      let later : List Step = map_list drops p.steps.cleanup ++ settings p.steps.status in
      let all : all_steps p.steps ≡ map_list drops p.steps.drop_first ++ (makes d ∷ later) =
      ap (λ (m : Option JobDraft). map_list drops p.steps.drop_first ++ (makings m ++ later)) start.make in
      subst (λ (l : List Step). Goes w k (Some d.key) t (calls_left p.steps.reasons l) Q) (sym all)
      (drops_go w k (Some d.key) p v p.steps.reasons Q Freed
      (λ rs a b same l. (
        free_still w u k new d.key rs a b same l.0,
        tidy_still w u k (Some d.key) (all_dropped p) olds (rs ++ p.steps.cleanup) a b same l.1,
      ))
      (λ r rs a b x l. (free_kept u k new d.key r rs a b x l.0, tidy_kept u (all_dropped p) r (rs ++ p.steps.cleanup) a b x l.1))
      p.steps.drop_first (makes d ∷ later) [] t (record { sync = g.sync; all = all })
      (subst (Freed p.steps.drop_first) (sym is) (
        record {
          free = free;
          cron = put_key s.store new refl;
          uids = low;
          keys = keys;
        },
        record { uids = low; keys = keys; gone = λ r i. inl i },
      ))
      (λ a e2 g2 f2. making_goes e2 a g2 f2.0 f2.1))

-- ---- the sync

-- the CronJob that was seen by the phase after the readings
abbrev pub seen_by : Phase → Option CronJob
seen_by (Checked c js ks) = c
seen_by p = None

-- the CronJob that was seen by one who has this sync
abbrev pub seen_in : Option InFlight → Option CronJob
seen_in None = None
seen_in (Some x) = seen_by x.phase

-- what the live read found by the phase after the readings
abbrev pub live_by : Phase → List (Option Job)
live_by (Checked c js ks) = ks
live_by p = []

-- what the live read found of one who has this sync
abbrev pub live_in : Option InFlight → List (Option Job)
live_in None = []
live_in (Some x) = live_by x.phase

-- the Jobs that were listed by the phase after the readings
abbrev pub listed_by : Phase → List Job
listed_by (Checked c js ks) = js
listed_by p = []

-- the Jobs that were listed by one who has this sync
abbrev pub listed_in : Option InFlight → List Job
listed_in None = []
listed_in (Some x) = listed_by x.phase

-- A plan for what its worker was answered makes the Job of its claim.
works_off_go : (s : State) (w : ℕ) (k : Place) (cron : CronJob) (p : Planned) (y : Claim) (r : IsRead w k cron s)
    → Starting p cron y → cron.key ≡ k → p.cron ≡ Some cron → p.jobs ≡ r.jobs
    → sync_of s w ≡ Some (in_flight k (Checked p.cron p.jobs p.active)) → p.steps.claim ≡ Some y
    → map.get s.store.jobs (made_place cron.key y.time) ≡ None
    → ((x : JobRef) → IsIn x (all_dropped p) → x.uid ≤ s.store.uids)
    → Goes w k (Some (made_place cron.key y.time)) s (works_off p)
    (λ t. IsStarted t.store k cron y.time × IsTidied (all_dropped p) t.store)
works_off_go s w k cron p y r start key seen listed sync claim free old =
    goes w k (Some (made_place cron.key y.time)) s (Of.Claim p) (calls_left p.steps.reasons (all_steps p.steps))
    (λ t. IsStarted t.store k cron y.time × IsTidied (all_dropped p) t.store) (λ t same.
    let z : State = with_sync (written t (cron_modified (with_status t.store y.status cron))) w k
    (works p (t.store.version + 1) 0) in
    record {
      handled = _;
      is = claim_is t w k p p.cron p.jobs p.active cron y (same.sync ∙ sync)
          ((rests_exactly p p.cron p.jobs p.active).1 (refl, refl, refl)) claim seen (same.cron ∙ r.stands);
      accepted = refl;
      goes = steps_go t s.store.uids w k cron p y start key seen old z refl
          (record { sync = sync_here t.syncs w (in_flight k (works p (t.store.version + 1) 0)); all = refl })
          same.keys (same.job ∙ free) same.more;
    })

-- Where the uids of two lists were given out, those of both were.
either_low : (u : ℕ) (xs ys : List JobRef) → ((x : JobRef) → IsIn x xs → x.uid ≤ u)
    → ((x : JobRef) → IsIn x ys → x.uid ≤ u)
    → (x : JobRef) → IsIn x (xs ++ ys) → x.uid ≤ u
either_low u xs ys f g x i = by (in_parts x xs ys i)
  where
    by : IsIn x xs ⊎ IsIn x ys → x.uid ≤ u
    by (inl a) = f x a
    by (inr b) = g x b

-- What is dropped first is of what runs, so that its uids were given out where the others' were.
first_low : (policy : Policy) (running dropped : List JobRef) (u : ℕ) → IsAllowed policy running dropped
    → ((x : JobRef) → IsIn x running → x.uid ≤ u) → (x : JobRef) → IsIn x dropped → x.uid ≤ u
first_low Allow running dropped u a f x i = absurd (subst (λ (l : List JobRef). IsIn x l) a i)
first_low Forbid running dropped u a f x i = absurd (subst (λ (l : List JobRef). IsIn x l) a.1 i)
first_low Replace running dropped u a f x i = f x (subst (λ (l : List JobRef). IsIn x l) a i)

-- What runs was found by the live read.
running_low : (u : ℕ) (cron : CronJob) (live : List (Option Job)) → ((j : Job) → IsIn j (present live) → j.meta.uid ≤ u)
    → (x : JobRef) → IsIn x (running_of cron live) → x.uid ≤ u
running_low u cron live f x i =
    let k = in_gathered (picks Meant.Running (uid_text cron.meta.uid)) (present live) x
    (in_ordered (precedes ByAge) x (gathered (picks Meant.Running (uid_text cron.meta.uid)) (present live)) i) in
    let e = ap (λ (z : JobRef). z.uid) k.is in
    let l = f k.job k.listed in
    omega (arith, e, l)

-- Where all that was dropped first is gone, under Replace all that ran is.
replaced : (policy : Policy) (running dropped : List JobRef) (s : Content) → IsAllowed policy running dropped
    → IsTidied dropped s → IsReplaced policy running s
replaced Allow running dropped s a g = tt
replaced Forbid running dropped s a g = tt
replaced Replace running dropped s a g = subst (λ (l : List JobRef). IsTidied l s) a g

-- For makes_job: after the readings, the plans for the answers make the Job of the latest time
-- missed.
pub plans_make_job : (window w : ℕ) (k : Place) (cron : CronJob) (h : List Told) → IsLegal window h
    → IsRead w k cron (state_of window h) → PlansMakeJob window w k cron h
plans_make_job window w k cron h l r p time f o free =
    let sync : sync_of (state_of window h) w ≡ Some (in_flight k (Checked p.cron p.jobs p.active)) =
    syncs_agree window h l w ∙ f.rests in
    let two = sym r.sync ∙ sync in
    let seen : p.cron ≡ Some cron = sym (ap seen_in two) in
    let listed : p.jobs ≡ r.jobs = sym (ap listed_in two) in
    let live : p.active ≡ r.live = sym (ap live_in two) in
    let plan = plan_of p cron f.decided seen in
    let claim = claims_due cron p.jobs p.active p.at p.zone p.steps o.zone time plan o.runs o.known o.latest o.allowed
    in
    let key = cron_keyed (writes h) k cron (sym ((store_agrees window h l).crons k) ∙ r.stands) in
    let start : Starting p cron (claim_of cron time) = starting p cron (claim_of cron time) f.decided seen claim in
    let u : ℕ = (state_of window h).store.uids in
    let runs : (x : JobRef) → IsIn x (running_of cron p.active) → x.uid ≤ u = running_low u cron p.active
    (λ j i. r.low j (subst (λ (z : List (Option Job)). IsIn j (present z)) live i)) in
    let cleans : (x : JobRef) → IsIn x p.steps.cleanup → x.uid ≤ u = λ x i. (
    let c = cleans_finished cron p.jobs p.active p.at p.zone p.steps plan x i in
    let a = ap (λ (z : JobRef). z.uid) c.is in
    let b = r.old c.job (subst (λ (js : List Job). IsIn c.job js) listed c.listed) in
    omega (arith, a, b)) in
    goes_leads window w k (Some (made_place cron.key time)) h (works_off p)
    (λ g. IsMade p k cron time (state_of window g).store)
    (λ t. IsStarted t.store k cron time × IsTidied (all_dropped p) t.store) l
    (λ g m x. record {
      started = x.0;
      cleaned = λ q i. x.1 q (in_right q p.steps.drop_first p.steps.cleanup i);
      replaced = replaced cron.spec.policy (running_of cron p.active) p.steps.drop_first (state_of window g).store
          start.allowed (λ q i. x.1 q (in_left q p.steps.drop_first p.steps.cleanup i));
    })
    (works_off_go (state_of window h) w k cron p (claim_of cron time) r start key seen listed sync claim free
    (either_low u p.steps.drop_first p.steps.cleanup
    (first_low cron.spec.policy (running_of cron p.active) p.steps.drop_first u start.allowed runs) cleans))
