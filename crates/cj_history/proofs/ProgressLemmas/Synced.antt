-- Syncs at given moments that nobody disturbs, and nothing else that writes the CronJob, make its
-- Jobs for the greatest due time of each interval up to a moment at which its policy lets one start.
use Rattle.std.proofs.Common.{◌≡◌, ◌≢◌, inl, inr, ℕ, ◌≤◌, max, true, false, List, [], ◌∷◌, ◌++◌, map as map_list, Option, Some, None, option_map, unwrap_or, refl, sym, ap, subst, ◌∙◌, arith}
use Rattle.std.specs.Prelude.{IfSome}
use Rattle.std.specs.FinMap as map
use Rattle.cj_types.specs.Keys.{Place}
use Rattle.cj_types.specs.Made.{made_place}
use Rattle.cj_types.specs.declared.cron.CronJob.{CronJob}
use Rattle.cj_types.specs.declared.cron.CronSpec.{CronSpec}
use Rattle.cj_types.specs.declared.cron.CronStatus.{CronStatus}
use Rattle.cj_types.specs.declared.job.JobDraft.{JobDraft}
use Rattle.cj_types.specs.declared.policy.Policy.{Policy}
use Rattle.cj_types.specs.declared.policy.Policy.TheVariants.{Allow, Forbid, Replace}
use Rattle.cj_types.specs.declared.policy.Reason.TheVariants.{JobAlreadyActive}
use Rattle.cj_schedule.specs.Matches.{Sets}
use Rattle.cj_schedule.specs.Grammar.{IsSchedule}
use Rattle.cj_zone.specs.declared.zone.Zone.{Zone}
use Rattle.cj_due.specs.Due.{IsQuiet, IsLatestDue, missed_count}
use Rattle.cj_due.specs.Window.{deadline_start, window_of}
use Rattle.cj_status.specs.declared.refs.JobRef.{JobRef}
use Rattle.cj_status.specs.Refs.{has_any}
use Rattle.cj_decide.specs.Start.{claim_of as claim_for, draft_of}
use Rattle.cj_decide.specs.Decision.{Planned, running_of}
use Rattle.cj_decide.specs.laws.Laws.{IsIn}
use Rattle.cj_calls.specs.declared.call.Call.TheVariants as Of
use Rattle.cj_calls.specs.Rows.{Told}
use Rattle.cj_state.specs.phases.Steps.{Step, drops, makes as makes_job, makings, settings, all_steps}
use Rattle.cj_state.specs.Readings.{active_of}
use Rattle.cj_state.specs.Legal.{state_of}
use Rattle.cj_world_laws.specs.once.Once.{Claimed}
use Rattle.cj_world_laws.proofs.LegalLemmas.HeldSyncs.{syncs_agree}
use Rattle.cj_history.specs.progress.Undisturbed.{entry, Leads}
use Rattle.cj_history.specs.progress.Syncs.{readings, works_off, IsLet, IsOpen, unmissed, forbidden, IsMade, IsUnclaimed, IsTidied}
use Rattle.cj_history.specs.progress.Every.{Moment, lets, forbids, instant_of, IsSaid, name_of, IsSync, AreOthers, Synced, looked_upto, last_moment, interval_start, GoOn, AreLatest, made_for, IsBegun, EveryTime, AreLet, LetsAlways, ForbiddenHoldsBack}
use Rattle.cj_history.proofs.ProgressLemmas.Missed.{claims_due}
use Rattle.cj_history.proofs.ProgressLemmas.Started.{IsRead, Starting, starting, plan_of, seen_in, live_in, plans_make_job}
use Rattle.cj_history.proofs.ProgressLemmas.Only.{Makes, claim_made}
use Rattle.cj_history.proofs.ProgressLemmas.Rest.{plans_rest}
use Rattle.cj_history.proofs.ProgressLemmas.Closed.{plans_stay}
use Rattle.cj_history.proofs.ProgressLemmas.Whole.{reads_on, sits_down}
use Rattle.cj_history.proofs.ProgressLemmas.Intervals.{IsLooked, NoneOrLatest, latest_after, quiet_after, looked_quiet, looked_latest, looked_none, none_due, none_or_latest}
use Rattle.cj_history.proofs.ProgressLemmas.Makers.{Good, earlier}
use Rattle.cj_history.proofs.ProgressLemmas.Restated.{IsRestated, itself, Has, has_after}
use Rattle.cj_history.proofs.ProgressLemmas.Others.{others_cron, others_times}
use Rattle.cj_history.proofs.ProgressLemmas.Led.{led_earlier, led_to, Kept, quiet_led, Ended, after_steps, works_led, after_drops, after_settings}

-- A policy that isn't Forbid always lets a Job start.
always_lets : (p : Policy) (running : List JobRef) → p ≢ Forbid → IsLet p running
always_lets Allow running n = tt
always_lets Replace running n = tt
always_lets Forbid running n = absurd (n refl)

-- Each policy lets a Job start where none runs.
pub lets_alone : (p : Policy) (running : List JobRef) → running ≡ [] → IsLet p running
lets_alone Allow running e = tt
lets_alone Forbid running e = e
lets_alone Replace running e = tt

-- One that doesn't let a Job start is Forbid, and one runs.
pub forbids_by : (p : Policy) (running : List JobRef) → (IsLet p running → ⊥) → (p ≡ Forbid)
    × (has_any running ≡ true)
forbids_by Allow running n = absurd (n tt)
forbids_by Replace running n = absurd (n tt)
forbids_by Forbid [] n = absurd (n refl)
forbids_by Forbid (r ∷ rs) n = (refl, refl)

-- ---- one sync

-- it made no Job, and left the last time
pub record Idles (window u : ℕ) (old new : CronJob) (h g : List Told) : Type 0 where
  pub last : new.status.last_schedule_time ≡ old.status.last_schedule_time
  pub made : made_for window u g ≡ made_for window u h

-- what a sync did, at a moment at which the policy let a Job start: it made the Job for the latest
-- time missed, or none where none was
pub data Does (window : ℕ) (s : Sets) (z : Zone) (t u : ℕ) (old new : CronJob) (h g : List Told) : Type 0 where
  claims : (time : ℕ) → IsLatestDue s z (window_of old t) t time → new.status.last_schedule_time ≡ Some time
      → made_for window u g ≡ time ∷ made_for window u h → Does window s z t u old new h g
  rests : IsQuiet s z (window_of old t) t → Idles window u old new h g → Does window s z t u old new h g

-- and at any moment
abbrev pub DoesAt : ℕ → Sets → Zone → Moment → ℕ → CronJob → CronJob → List Told → List Told → Type 0
DoesAt window s z (lets t) u old new h g = Does window s z t u old new h g
DoesAt window s z (forbids t) u old new h g = Idles window u old new h g

-- and the CronJob that it left
pub record Did (window : ℕ) (k : Place) (c : CronJob) (s : Sets) (z : Zone) (m : Moment) (old : CronJob)
    (h g : List Told)
    : Type 0 where
  pub now : CronJob
  pub stands : map.get (state_of window g).store.crons k ≡ Some now
  pub same : IsRestated c now
  pub does : DoesAt window s z m c.meta.uid old now h g

-- For sync_did: of such steps none makes a Job.
none_makes : (rs : List JobRef) (o : Option CronStatus) → Makes (map_list drops rs ++ settings o) → ⊥
none_makes [] None i = absurd i
none_makes [] (Some st) i = absurd i
none_makes (r ∷ rs) o i = none_makes rs o i

-- For sync_did: nor where they begin with other drops.
none_first : (ds rs : List JobRef) (o : Option CronStatus)
    → Makes (map_list drops ds ++ (map_list drops rs ++ settings o)) → ⊥
none_first [] rs o i = none_makes rs o i
none_first (d ∷ ds) rs o i = none_first ds rs o i

-- The history before a sync is such as the one after it.
pub sync_begun : (window : ℕ) (k : Place) (z : Zone) (m : Moment) (h g : List Told) → IsSync window k z m h g
    → Good window g
    → Good window h
sync_begun window k z m h g y good =
    let take = entry window h y.worker Of.Take in
    earlier window (take ∷ []) h
    (led_earlier window y.worker k None readings (take ∷ h) y.read y.reads
    (led_earlier window y.worker k (name_of y.plan) (works_off y.plan) y.read g y.works good))

-- y is a sync of the key k from the history h to g, whose claim is made at the moment m in the zone
-- z; c is the CronJob that stands there, but for its status and its version, and s its schedule.
module _ (window : ℕ) (k : Place) (z : Zone) (m : Moment) (h g : List Told) (y : IsSync window k z m h g)
    (good : Good window g) (c : CronJob) (s : Sets) (runs : c.spec.suspend ≡ false)
    (reads : IsSchedule c.spec.schedule s) (has : Has window k c h) where
  abbrev w : ℕ
  w = y.worker

  abbrev p : Planned
  p = y.plan

  -- the entry of the Take
  abbrev take : Told
  take = entry window h w Of.Take

  mid : Good window y.read
  mid = led_earlier window w k (name_of p) (works_off p) y.read g y.works good

  taken : Good window (take ∷ h)
  taken = led_earlier window w k None readings (take ∷ h) y.read y.reads mid

  begun : Good window h
  begun = sync_begun window k z m h g y good

  -- what the worker knows after its readings
  read : IsRead w k y.cron (state_of window y.read)
  read =
      led_to window w k None readings (λ x. IsRead w k y.cron (state_of window x)) (take ∷ h) y.read
      (reads_on window h w k y.cron begun.legal y.ready) y.reads mid

  -- The readings make nothing.
  kept : Kept window w k None c (take ∷ h) y.read
  kept =
      quiet_led window w k None c readings
      (refl, refl, λ a. refl, (refl, refl, λ a. refl, (refl, refl, λ a. refl, tt))) (take ∷ h) y.read y.reads mid
      (record { sits = _; held = sits_down window h w k y.cron begun.legal y.ready; key = refl })
      (has_after window k c take h taken.legal refl has)

  -- The CronJob that it read is the one that stood before.
  pub is : has.now ≡ y.cron
  is = cc (sym has.stands ∙ y.ready.stands)

  pub same : IsRestated c y.cron
  same = subst (IsRestated c) is has.same

  seen : p.cron ≡ Some y.cron
  seen = sym (ap seen_in (sym read.sync ∙ (syncs_agree window y.read mid.legal w ∙ y.decides.rests)))

  -- The plan's live read is what stood of the CronJob's active names when it was made.
  pub found_is : p.active ≡ active_of (state_of window y.read).store (Some y.cron)
  found_is =
      sym (ap live_in (sym read.sync ∙ (syncs_agree window y.read mid.legal w ∙ y.decides.rests))) ∙ read.found

  runs_still : y.cron.spec.suspend ≡ false
  runs_still = ap (λ (x : CronSpec). x.suspend) same.spec ∙ runs

  reads_still : IsSchedule y.cron.spec.schedule s
  reads_still = subst (λ (x : CronSpec). IsSchedule x.schedule s) (sym same.spec) reads

  -- what the sync did, at a moment
  abbrev DidAt : Moment → Type 0
  DidAt n = Did window k c s z n y.cron h g

  -- What the sync left, with the CronJob that stands by both.
  left : (times : List ℕ) → Ended window w k (name_of p) c times g → (now : CronJob)
      → map.get (state_of window g).store.crons k ≡ Some now → IsRestated c now
  left times e now at = let one : e.has.now ≡ now = cc (sym e.has.stands ∙ at) in subst (IsRestated c) one e.has.same

  -- it left the CronJob, and made no Job
  record Idled : Type 0 where
    now : CronJob
    stands : map.get (state_of window g).store.crons k ≡ Some now
    same : IsRestated c now
    idles : Idles window c.meta.uid y.cron now h g

  -- Where nothing is claimed nothing is made.
  idled : p.steps.claim ≡ None → Idled
  idled none =
      let rest = plans_rest window w k y.cron y.read mid.legal read p y.decides none in
      let P : List Told → Type 0 = λ x. IsUnclaimed (state_of window x).store k y.cron
      × IsTidied p.steps.cleanup (state_of window x).store in
      let name : None ≡ name_of p = sym (ap (λ (o : Option JobDraft). option_map (λ (d : JobDraft). d.key) o) rest.0) in
      let lead : Leads window w k (name_of p) y.read (works_off p) P =
      subst (λ (q : Option Place). Leads window w k q y.read (works_off p) P) name rest.1 in
      let un = (led_to window w k (name_of p) (works_off p) P y.read g lead y.works good).0 in
      let m : Claimed = record { owner = c.meta.uid; time = 0; policy = Allow } in
      let bare : all_steps p.steps ≡ map_list drops p.steps.drop_first
      ++ (map_list drops p.steps.cleanup ++ settings p.steps.status) =
      ap (λ (o : Option JobDraft). map_list drops p.steps.drop_first
      ++ (makings o ++ (map_list drops p.steps.cleanup ++ settings p.steps.status))) rest.0 in
      let ended = works_led window w k (name_of p) c m refl p P y.read g lead y.works good kept.holds kept.has
      (λ es l a i. absurd (none_first p.steps.drop_first p.steps.cleanup p.steps.status (subst Makes bare i))) in
      let old : List ℕ = made_for window c.meta.uid y.read in
      record {
        now = un.now;
        stands = un.stands;
        same = left _ ended un.now un.stands;
        idles = record {
          last = un.last;
          made = ended.made
              ∙ (ap (λ (xs : List Step). after_steps window w k (name_of p) c 0 xs old) bare
              ∙ (after_drops window w k (name_of p) c 0 p.steps.drop_first
              (map_list drops p.steps.cleanup ++ settings p.steps.status) old
              ∙ (after_drops window w k (name_of p) c 0 p.steps.cleanup (settings p.steps.status) old
              ∙ (after_settings window w k (name_of p) c 0 p.steps.status old ∙ kept.times))));
        };
      }

  -- A plan of a window without a due time claims nothing.
  none_claimed : missed_count s z (window_of y.cron p.at) p.at ≡ 0 → p.steps.claim ≡ None
  none_claimed none =
      let why = unmissed z s runs_still y.zone reads_still none in
      (plans_stay window w k y.cron y.read mid.legal read p y.decides why).0

  -- Where no time was missed nothing is made.
  did_rest : missed_count s z (window_of y.cron p.at) p.at ≡ 0 → DidAt (lets p.at)
  did_rest none =
      let i = idled (none_claimed none) in
      record {
        now = i.now;
        stands = i.stands;
        same = i.same;
        does = rests (none_due s z (window_of y.cron p.at) p.at none) i.idles;
      }

  -- A plan that Forbid forbids to claim the latest time missed claims nothing, and tells that a Job
  -- runs.
  held_back : (time : ℕ) → IsLatestDue s z (window_of y.cron p.at) p.at time
      → (IsLet y.cron.spec.policy (running_of y.cron p.active) → ⊥)
      → (p.steps.claim ≡ None) × IsIn JobAlreadyActive p.steps.reasons
  held_back time latest never =
      let by = forbids_by y.cron.spec.policy (running_of y.cron p.active) never in
      plans_stay window w k y.cron y.read mid.legal read p y.decides (forbidden z time runs_still y.zone
      (record { sets = s; schedule = reads_still; latest = latest }) by.0 by.1)

  -- Where a time was missed the Job for the latest is made.
  did_claim : (time : ℕ) → IsLatestDue s z (window_of y.cron p.at) p.at time
      → IsLet y.cron.spec.policy (running_of y.cron p.active) → DidAt (lets p.at)
  did_claim time latest allowed =
      let open_now : IsOpen y.cron p time = record {
        runs = runs_still;
        zone = z;
        known = y.zone;
        latest = record { sets = s; schedule = reads_still; latest = latest };
        allowed = allowed;
      } in
      let plan = plan_of p y.cron y.decides.decided seen in
      let claim = claims_due y.cron p.jobs p.active p.at p.zone p.steps z time plan runs_still y.zone open_now.latest
      open_now.allowed in
      let start : Starting p y.cron (claim_for y.cron time)
      = starting p y.cron (claim_for y.cron time) y.decides.decided seen claim in
      let name : name_of p ≡ Some (made_place y.cron.key time) =
      ap (λ (o : Option JobDraft). option_map (λ (d : JobDraft). d.key) o) start.make in
      let free : map.get (state_of window y.read).store.jobs (made_place y.cron.key time) ≡ None =
      subst (λ (o : Option Place). IfSome o (λ q. map.get (state_of window y.read).store.jobs q ≡ None)) name y.free in
      let P : List Told → Type 0 = λ x. IsMade p k y.cron time (state_of window x).store in
      let lead : Leads window w k (name_of p) y.read (works_off p) P =
      subst (λ (q : Option Place). Leads window w k q y.read (works_off p) P) (sym name)
      (plans_make_job window w k y.cron y.read mid.legal read p time y.decides open_now free) in
      let made = (led_to window w k (name_of p) (works_off p) P y.read g lead y.works good).started in
      let m : Claimed = record { owner = y.cron.meta.uid; time = time; policy = y.cron.spec.policy } in
      let later : List Step = map_list drops p.steps.cleanup ++ settings p.steps.status in
      let all : all_steps p.steps ≡ map_list drops p.steps.drop_first ++ (makes_job (draft_of y.cron time) ∷ later) =
      ap (λ (o : Option JobDraft). map_list drops p.steps.drop_first ++ (makings o ++ later)) start.make in
      let ended = works_led window w k (name_of p) c m same.uid p P y.read g lead y.works good kept.holds kept.has
      (λ es l a i. claim_made window w k y.cron y.read mid.legal read p time y.decides open_now (name_of p) es l a) in
      let old : List ℕ = made_for window c.meta.uid y.read in
      record {
        now = made.now;
        stands = made.stands;
        same = left _ ended made.now made.stands;
        does = claims time latest made.last (
            ended.made
            ∙ (ap (λ (xs : List Step). after_steps window w k (name_of p) c time xs old) all
            ∙ (after_drops window w k (name_of p) c time p.steps.drop_first (makes_job (draft_of y.cron time) ∷ later)
            old
            ∙ (after_drops window w k (name_of p) c time p.steps.cleanup (settings p.steps.status) (time ∷ old)
            ∙ (after_settings window w k (name_of p) c time p.steps.status (time ∷ old)
            ∙ ap (λ (l : List ℕ). time ∷ l) kept.times)))));
      }

  -- none was missed, or one was the latest
  either : NoneOrLatest s z (window_of y.cron p.at) p.at
  either =
      none_or_latest y.cron p.jobs p.active p.at p.zone p.steps s z (plan_of p y.cron y.decides.decided seen) runs_still
      y.zone reads_still

  -- A sync that the policy lets start one makes the Job for the latest time missed, or nothing where
  -- none was.
  did_let : IsLet y.cron.spec.policy (running_of y.cron p.active) → DidAt (lets p.at)
  did_let allowed = by either
    where
      by : NoneOrLatest s z (window_of y.cron p.at) p.at → DidAt (lets p.at)
      by (inl none) = did_rest none
      by (inr (time, latest)) = did_claim time latest allowed

  -- One that it doesn't makes none.
  did_forbid : (IsLet y.cron.spec.policy (running_of y.cron p.active) → ⊥) → DidAt (forbids p.at)
  did_forbid never = by either
    where
      so : p.steps.claim ≡ None → DidAt (forbids p.at)
      so none = let i = idled none in record { now = i.now; stands = i.stands; same = i.same; does = i.idles }

      by : NoneOrLatest s z (window_of y.cron p.at) p.at → DidAt (forbids p.at)
      by (inl none) = so (none_claimed none)
      by (inr (time, latest)) = so (held_back time latest never).0

  -- A sync at a moment did what the policy lets it.
  pub sync_did : Did window k c s z m has.now h g
  sync_did = subst (λ (x : CronJob). Did window k c s z m x h g) (sym is) (by m y.at y.said)
    where
      by : (n : Moment) → p.at ≡ instant_of n → IsSaid n y.cron.spec.policy (running_of y.cron p.active) → DidAt n
      by (lets t) at said = subst (λ (x : ℕ). DidAt (lets x)) at (did_let said)
      by (forbids t) at said = subst (λ (x : ℕ). DidAt (forbids x)) at (did_forbid said)

  -- One that it doesn't let start a Job tells that one runs, where a time is due in the window.
  pub tells_active : (IsLet y.cron.spec.policy (running_of y.cron p.active) → ⊥) → (time : ℕ)
      → IsLatestDue s z (window_of has.now (instant_of m)) (instant_of m) time
      → IsIn JobAlreadyActive p.steps.reasons
  tells_active never time latest =
      (held_back time (subst (λ (n : ℕ). IsLatestDue s z (window_of y.cron n) n time) (sym y.at)
      (subst (λ (x : CronJob). IsLatestDue s z (window_of x (instant_of m)) (instant_of m) time) is latest)) never).1

-- ---- all syncs

-- what was reached after the syncs at these moments, from a history on at which the CronJob cron
-- stood
pub record Reached (window : ℕ) (start : List Told) (k : Place) (cron : CronJob) (s : Sets) (z : Zone)
    (ms : List Moment) (g : List Told) : Type 0 where
  pub has : Has window k cron g
  pub last : IfSome has.now.status.last_schedule_time (λ t. IsIn t (made_for window cron.meta.uid g))
  pub looked : IsLooked s z cron.spec.starting_deadline_seconds
      (unwrap_or has.now.status.last_schedule_time cron.meta.created) (looked_upto cron ms)
  pub times : List ℕ
  pub latest : AreLatest s z cron ms times
  pub made : made_for window cron.meta.uid g ≡ times ++ made_for window cron.meta.uid start

-- What is in a list is in an equal one, for each value that there is.
still_in : (o : Option ℕ) (xs ys : List ℕ) → ys ≡ xs → IfSome o (λ t. IsIn t xs) → IfSome o (λ t. IsIn t ys)
still_in None xs ys e i = tt
still_in (Some t) xs ys e i = subst (λ (l : List ℕ). IsIn t l) (sym e) i

-- A time is in a list that begins with it.
first_in : (o : Option ℕ) (t : ℕ) (xs ys : List ℕ) → o ≡ Some t → ys ≡ t ∷ xs → IfSome o (λ x. IsIn x ys)
first_in None t xs ys e f = absurd (cc e)
first_in (Some x) t xs ys e f =
    let same : x ≡ t = cc e in subst (λ (l : List ℕ). IsIn x l) (sym f) (inl (sym same))

-- The next interval begins no later than at the last moment.
pub looked_low : (cron : CronJob) (ms : List Moment) → GoOn cron ms → looked_upto cron ms ≤ last_moment cron ms
looked_low cron [] on = omega arith
looked_low cron (lets t ∷ ms) on = omega arith
looked_low cron (forbids t ∷ ms) on = let a = looked_low cron ms on.1 in let b = on.0 in omega (arith, a, b)

module _ (window : ℕ) (start : List Told) (k : Place) (cron : CronJob) (s : Sets) (z : Zone)
    (b : IsBegun window start k cron s) where
  -- What was reached stays so, whatever others call that don't write the CronJob.
  reached_still : (ms : List Moment) (es h : List Told) → Good window (es ++ h) → AreOthers k es h
      → Reached window start k cron s z ms h → Reached window start k cron s z ms (es ++ h)
  reached_still ms es h good a r =
      let old : Good window h = earlier window es h good in
      let times : made_for window cron.meta.uid (es ++ h) ≡ made_for window cron.meta.uid h =
      subst (λ (u : ℕ). made_for window u (es ++ h) ≡ made_for window u h) r.has.same.uid
      (others_times window k es h r.has.now good a r.has.stands
      (subst (λ (u : ℕ). IfSome r.has.now.status.last_schedule_time (λ t. IsIn t (made_for window u h)))
      (sym r.has.same.uid) r.last)) in
      record {
        has = record {
          now = r.has.now;
          stands = others_cron window k es h good.legal old.legal a ∙ r.has.stands;
          same = r.has.same;
        };
        last = still_in r.has.now.status.last_schedule_time (made_for window cron.meta.uid h)
            (made_for window cron.meta.uid (es ++ h)) times r.last;
        looked = r.looked;
        times = r.times;
        latest = r.latest;
        made = times ∙ r.made;
      }

  -- Before the first of them nothing is made.
  reached_start : Reached window start k cron s z [] start
  reached_start = record {
    has = record { now = cron; stands = b.stands; same = itself cron };
    last = b.last;
    looked = looked_none s z cron.spec.starting_deadline_seconds (looked_upto cron []);
    times = [];
    latest = refl;
    made = refl;
  }

  -- The window of a CronJob that is another but for its status is that of its last time.
  window_is : (now : CronJob) (t : ℕ) → IsRestated cron now
      → window_of now t ≡ max (unwrap_or now.status.last_schedule_time cron.meta.created)
      (deadline_start cron.spec.starting_deadline_seconds t)
  window_is now t r =
      ap (λ (x : ℕ). max (unwrap_or now.status.last_schedule_time x)
      (deadline_start now.spec.starting_deadline_seconds t)) r.created
      ∙ ap (λ (x : CronSpec). max (unwrap_or now.status.last_schedule_time cron.meta.created)
      (deadline_start x.starting_deadline_seconds t)) r.spec

  -- r is what was reached before one sync more, which is y.
  module _ (ms : List Moment) (m : Moment) (h g : List Told) (good : Good window g)
      (on : looked_upto cron ms ≤ instant_of m) (r : Reached window start k cron s z ms h)
      (y : IsSync window k z m h g) where
    d : Did window k cron s z m r.has.now h g
    d = sync_did window k z m h g y good cron s b.runs b.reads r.has

    -- the CronJob that it left
    has : Has window k cron g
    has = record { now = d.now; stands = d.stands; same = d.same }

    -- Where no Job was made the last time has its Job still.
    idle_last : Idles window cron.meta.uid r.has.now d.now h g
        → IfSome d.now.status.last_schedule_time (λ x. IsIn x (made_for window cron.meta.uid g))
    idle_last i =
        subst (λ (o : Option ℕ). IfSome o (λ x. IsIn x (made_for window cron.meta.uid g))) (sym i.last)
        (still_in r.has.now.status.last_schedule_time (made_for window cron.meta.uid h)
        (made_for window cron.meta.uid g) i.made r.last)

    -- Where the policy let a Job start, its interval was looked at.
    reached_let : (t : ℕ) → looked_upto cron ms ≤ t → Does window s z t cron.meta.uid r.has.now d.now h g
        → Reached window start k cron s z (lets t ∷ ms) g
    unfolding has d
    reached_let t below (claims time due last made) =
        let line : Option ℕ = cron.spec.starting_deadline_seconds in
        let base : ℕ = unwrap_or r.has.now.status.last_schedule_time cron.meta.created in
        let here = subst (λ (n : ℕ). IsLatestDue s z n t time) (window_is r.has.now t r.has.same) due in
        record {
          has = has;
          last = first_in d.now.status.last_schedule_time time (made_for window cron.meta.uid h)
              (made_for window cron.meta.uid g) last made;
          looked = subst (λ (o : Option ℕ). IsLooked s z line (unwrap_or o cron.meta.created) t) (sym last)
              (looked_latest s z line _ t time here);
          times = time ∷ r.times;
          latest = inr (time, r.times, latest_after s z line base (looked_upto cron ms) t r.looked below time here, refl, r.latest);
          made = made ∙ ap (λ (l : List ℕ). time ∷ l) r.made;
        }
    reached_let t below (rests none i) =
        let line : Option ℕ = cron.spec.starting_deadline_seconds in
        let base : ℕ = unwrap_or r.has.now.status.last_schedule_time cron.meta.created in
        let here = subst (λ (n : ℕ). IsQuiet s z n t) (window_is r.has.now t r.has.same) none in
        let low = r.looked.low in
        record {
          has = has;
          last = idle_last i;
          looked = subst (λ (o : Option ℕ). IsLooked s z line (unwrap_or o cron.meta.created) t) (sym i.last)
              (looked_quiet s z line base (looked_upto cron ms) t (omega (arith, low, below)) here);
          times = r.times;
          latest = inl (quiet_after s z line base (looked_upto cron ms) t r.looked here, r.latest);
          made = i.made ∙ r.made;
        }

    -- Where it forbade it, nothing was.
    reached_forbid : (t : ℕ) → Idles window cron.meta.uid r.has.now d.now h g
        → Reached window start k cron s z (forbids t ∷ ms) g
    unfolding has d
    reached_forbid t i = record {
      has = has;
      last = idle_last i;
      looked = subst (λ (o : Option ℕ). IsLooked s z cron.spec.starting_deadline_seconds
          (unwrap_or o cron.meta.created) (looked_upto cron ms))
          (sym i.last) r.looked;
      times = r.times;
      latest = r.latest;
      made = i.made ∙ r.made;
    }

    -- One sync more.
    reached_next : Reached window start k cron s z (m ∷ ms) g
    reached_next = by m on d.does
      where
        by : (n : Moment) → looked_upto cron ms ≤ instant_of n
            → DoesAt window s z n cron.meta.uid r.has.now d.now h g → Reached window start k cron s z (n ∷ ms) g
        by (lets t) below does = reached_let t below does
        by (forbids t) below does = reached_forbid t does

  -- After all of them.
  pub reached : (ms : List Moment) (g : List Told) → Good window g → GoOn cron ms → Synced window k z start ms g
      → Reached window start k cron s z ms g
  reached [] g good on (es, others, is) =
      subst (Reached window start k cron s z []) (sym is)
      (reached_still [] es start (subst (Good window) is good) others reached_start)
  reached (m ∷ ms) g good on (before, after, es, rest, did, others, is) =
      let whole : Good window (es ++ after) = subst (Good window) is good in
      let last : Good window after = earlier window es after whole in
      let low = looked_low cron ms on.1 in
      let next = on.0 in
      subst (Reached window start k cron s z (m ∷ ms)) (sym is)
      (reached_still (m ∷ ms) es after whole others
      (reached_next ms m before after last (omega (arith, low, next))
      (reached ms before (sync_begun window k z m before after did last) on.1 rest) did))

-- For every_time_law: from such a history on, the Jobs that are made are those of the greatest due
-- times.
pub every_time : EveryTime
every_time window start g k cron s z ms short legal planned b on y =
    let r = reached window start k cron s z b ms g (record { short = short; legal = legal; planned = planned }) on y in
    (r.times, r.latest, r.made)

-- ---- what the policy says

-- The interval of a moment begins no earlier than the window of a CronJob that was looked at.
held_window : (window : ℕ) (start : List Told) (k : Place) (cron : CronJob) (s : Sets) (z : Zone) (ms : List Moment)
    (t : ℕ) (h : List Told) (b : IsBegun window start k cron s) (r : Reached window start k cron s z ms h) (time : ℕ)
    → IsLatestDue s z (interval_start cron ms t) t time → IsLatestDue s z (window_of r.has.now t) t time
held_window window start k cron s z ms t h b r time due =
    let low = r.looked.low in
    let above = due.above in
    subst (λ (n : ℕ). IsLatestDue s z n t time) (sym (window_is window start k cron s z b r.has.now t r.has.same))
    (record { above = omega (arith, low, above); within = due.within; is_due = due.is_due; latest = due.latest })

-- For every_time_law: a sync that the policy doesn't let start a Job makes none, and tells that one
-- runs.
pub forbidden_holds_back : ForbiddenHoldsBack
forbidden_holds_back window start before after k cron s z ms t short legal planned b on rest y =
    let good : Good window after = record { short = short; legal = legal; planned = planned } in
    let old : Good window before = sync_begun window k z (forbids t) before after y good in
    let r = reached window start k cron s z b ms before old on.1 rest in
    let d : Did window k cron s z (forbids t) r.has.now before after =
    sync_did window k z (forbids t) before after y good cron s b.runs b.reads r.has in
    record {
      none = d.does.made;
      tells = λ time due. tells_active window k z (forbids t) before after y good cron s b.runs b.reads r.has y.said
          time (held_window window start k cron s z ms t before b r time due);
    }

module _ (window : ℕ) (start : List Told) (k : Place) (cron : CronJob) (s : Sets) (z : Zone)
    (b : IsBegun window start k cron s) where
  -- The CronJob that stands after such syncs is the one before them, but for its status and its
  -- version.
  pub has_synced : (ms : List Moment) (g : List Told) → Good window g → Synced window k z start ms g
      → Has window k cron g
  has_synced [] g good (es, others, is) =
      let whole : Good window (es ++ start) = subst (Good window) is good in
      subst (Has window k cron) (sym is) (record {
        now = cron;
        stands = others_cron window k es start whole.legal (earlier window es start whole).legal others ∙ b.stands;
        same = itself cron;
      })
  has_synced (m ∷ ms) g good (before, after, es, rest, did, others, is) =
      let whole : Good window (es ++ after) = subst (Good window) is good in
      let last : Good window after = earlier window es after whole in
      let d = sync_did window k z m before after did last cron s b.runs b.reads
      (has_synced ms before (sync_begun window k z m before after did last) rest) in
      subst (Has window k cron) (sym is) (record {
        now = d.now;
        stands = others_cron window k es after whole.legal last.legal others ∙ d.stands;
        same = d.same;
      })

  -- The policy that a sync read is the one that the CronJob had before them.
  pub same_policy : (ms : List Moment) (m : Moment) (before after : List Told) → Good window after
      → Synced window k z start ms before → (y : IsSync window k z m before after)
      → y.cron.spec.policy ≡ cron.spec.policy
  same_policy ms m before after good rest y =
      let has = has_synced ms before (sync_begun window k z m before after y good) rest in
      ap (λ (x : CronJob). x.spec.policy) (sym (is window k z m before after y good cron s b.runs b.reads has))
      ∙ ap (λ (x : CronSpec). x.policy) has.same.spec

  -- Another policy than Forbid let a Job start at each moment.
  let_each : cron.spec.policy ≢ Forbid → (ms : List Moment) (g : List Told) → Good window g
      → Synced window k z start ms g → AreLet ms
  let_each n [] g good y = tt
  let_each n (m ∷ ms) g good (before, after, es, rest, did, others, is) =
      let last : Good window after = earlier window es after (subst (Good window) is good) in
      let old = sync_begun window k z m before after did last in
      by m did.said (same_policy ms m before after last rest did) (let_each n ms before old rest)
    where
      by : (x : Moment) → IsSaid x did.cron.spec.policy (running_of did.cron did.plan.active)
          → did.cron.spec.policy ≡ cron.spec.policy → AreLet ms → AreLet (x ∷ ms)
      by (lets t) said e r = r
      by (forbids t) said e r =
          absurd (said (always_lets did.cron.spec.policy (running_of did.cron did.plan.active) (λ f. n (sym e ∙ f))))

-- For every_time_law: so it does from such a history on.
pub lets_each : LetsAlways
lets_each window start g k cron s z ms short legal planned b y n =
    let_each window start k cron s z b n ms g (record { short = short; legal = legal; planned = planned }) y
