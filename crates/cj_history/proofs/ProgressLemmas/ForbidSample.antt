-- A history to which every_time_law applies under Forbid: the Job of one o'clock still runs at three
-- o'clock, so that the times of two and of three o'clock get none by then.
use Rattle.std.proofs.Common.{◌≡◌, ◌⊎◌, inl, inr, ℕ, ◌≤◌, max, Bool, true, false, ◌&&◌, List, [], ◌∷◌, length, map as map_list, Option, Some, None, option_map, refl, sym, ap, subst, ◌∙◌, arith}
use Rattle.std.specs.Prelude.{Ok, IfSome, if◌then◌else◌}
use Rattle.std.specs.FinMap as map
use Rattle.cj_types.specs.Keys.{Place}
use Rattle.cj_types.specs.Made.{made_place}
use Rattle.cj_types.specs.Objects.{is_unfinished}
use Rattle.cj_types.specs.Uids.{uid_text, last_uid}
use Rattle.cj_types.specs.declared.cron.CronJob.{CronJob}
use Rattle.cj_types.specs.declared.cron.CronJobDraft.{CronJobDraft}
use Rattle.cj_types.specs.declared.cron.CronSpec.{CronSpec}
use Rattle.cj_types.specs.declared.job.Job.{Job}
use Rattle.cj_types.specs.declared.job.JobDraft.{JobDraft}
use Rattle.cj_types.specs.declared.policy.Policy.{Policy}
use Rattle.cj_types.specs.declared.policy.Policy.TheVariants.{Forbid}
use Rattle.cj_types.specs.declared.policy.Reason.TheVariants.{JobAlreadyActive}
use Rattle.cj_schedule.specs.Grammar.{IsSchedule}
use Rattle.cj_due.specs.Due.{due, IsQuiet, IsLatestDue}
use Rattle.cj_due.specs.Window.{deadline_start, window_of}
use Rattle.cj_status.specs.declared.listing.Pick.TheVariants as Meant
use Rattle.cj_status.specs.declared.order.Sorting.TheVariants.{ByAge}
use Rattle.cj_status.specs.declared.refs.JobRef.{JobRef}
use Rattle.cj_status.specs.Mine.{is_mine, is_running, present}
use Rattle.cj_status.specs.Picked.{picks, gathered}
use Rattle.cj_status.specs.Refs.{ref, precedes}
use Rattle.cj_store.specs.Content.{Content}
use Rattle.cj_decide.specs.Decision.{Planned, running_of}
use Rattle.cj_decide.specs.laws.Laws.{IsIn}
use Rattle.cj_decide.specs.laws.Fits.{IsAt}
use Rattle.cj_decide.proofs.LawsLemmas.Members.{gathered_in, ordered_in}
use Rattle.cj_calls.specs.declared.caller.Role.TheVariants.{Informer}
use Rattle.cj_calls.specs.declared.call.Call.TheVariants as Of
use Rattle.cj_calls.specs.declared.reply.Reply.TheVariants as Say
use Rattle.cj_calls.specs.Rows.{Told}
use Rattle.cj_state.specs.Readings.{if_mine, active_job, active_of}
use Rattle.cj_state.specs.Step.{step_of}
use Rattle.cj_state.specs.Legal.{IsLegal, ArePlanned, state_of}
use Rattle.cj_history.specs.queue.Deeds.{operations}
use Rattle.cj_history.specs.progress.Syncs.{IsReady, IsFor, IsLet, IsStarted}
use Rattle.cj_history.specs.progress.Every.{Moment, lets, forbids, IsSync, Synced, interval_start, AreLatest, made_for, IsBegun}
use Rattle.cj_history.proofs.StoreLemmas.Sample.{a, told, created, new}
use Rattle.cj_history.proofs.StoreLemmas.Stores.{store_agrees}
use Rattle.cj_history.proofs.QueueLemmas.Agreed.{queue_agrees}
use Rattle.cj_history.proofs.ProgressLemmas.Missed.{clash, one_latest}
use Rattle.cj_history.proofs.ProgressLemmas.Intervals.{latest_or_none}
use Rattle.cj_history.proofs.ProgressLemmas.Makers.{Good}
use Rattle.cj_history.proofs.ProgressLemmas.Restated.{IsRestated, Has}
use Rattle.cj_history.proofs.ProgressLemmas.Synced.{has_synced, forbidden_holds_back}
use Rattle.cj_history.proofs.ProgressLemmas.Since.{fresh_in, every_time_since}
use Rattle.cj_history.proofs.ProgressLemmas.HourSample.{hourly, utc, due_hour, due_three, quiet_minute}
use Rattle.cj_history.proofs.ProgressLemmas.OneKey.{first_is}
use Rattle.cj_history.proofs.ProgressLemmas.EverySample.{Sample, sample, is_new}
use Rattle.cj_history.proofs.ProgressLemmas.Runs as after

-- ---- what runs

-- An unfinished Job of a controller with this uid has that controller.
mine : (uid : List ℕ) (j : Job) → is_running uid j ≡ true → is_mine uid j ≡ true
mine uid j e = by (is_mine uid j) refl e
  where
    by : (b : Bool) → is_mine uid j ≡ b → is_running uid j ≡ true → is_mine uid j ≡ true
    by true f g = f
    by false f g =
        let h : ◌≡◌ {A = Bool} false true = sym (ap (λ (b : Bool). b && is_unfinished j) f) ∙ g in absurd (cc h)

-- A Job that stands at an active name is found by the live read.
found_there : (s : Content) (uid namespace : List ℕ) (names : List (List ℕ)) (q : Place) (j : Job)
    → IsAt namespace names q → map.get s.jobs q ≡ Some j → is_mine uid j ≡ true
    → IsIn j (present (map_list (active_job s uid namespace) names))
found_there s uid namespace [] q j i at m = absurd i
found_there s uid namespace (n ∷ names) q j (inl e) at m =
    subst (λ (o : Option Job). IsIn j (present (o ∷ map_list (active_job s uid namespace) names)))
    (sym (ap (λ (o : Option Job). if_mine uid o) (ap (map.get s.jobs) e ∙ at)
    ∙ ap (λ (b : Bool). if b then Some j else None) m))
    (inl refl)
found_there s uid namespace (n ∷ names) q j (inr i) at m =
    by (active_job s uid namespace n) (found_there s uid namespace names q j i at m)
  where
    by : (o : Option Job) → IsIn j (present (map_list (active_job s uid namespace) names))
        → IsIn j (present (o ∷ map_list (active_job s uid namespace) names))
    by None k = k
    by (Some x) k = inr k

-- So one that is unfinished runs.
runs_then : (c : CronJob) (s : Content) (q : Place) (j : Job) → IsAt c.key.namespace c.status.active q
    → map.get s.jobs q ≡ Some j → is_running (uid_text c.meta.uid) j ≡ true
    → running_of c (active_of s (Some c)) ≡ [] → ⊥
runs_then c s q j i at runs none =
    let found : List Job = present (active_of s (Some c)) in
    let here = found_there s (uid_text c.meta.uid) c.key.namespace c.status.active q j i at
    (mine (uid_text c.meta.uid) j runs) in
    let x : IsIn (ref j) (running_of c (active_of s (Some c))) =
    ordered_in (precedes ByAge) (ref j) (gathered (picks Meant.Running (uid_text c.meta.uid)) found)
    (gathered_in (picks Meant.Running (uid_text c.meta.uid)) found j runs here) in
    subst (λ (l : List JobRef). IsIn (ref j) l) none x

-- ---- the sample

-- a draft of an hourly CronJob under Forbid, without a deadline, that isn't suspended
module _ (d : CronJobDraft) (runs : d.spec.suspend ≡ false) (forbid : d.spec.policy ≡ Forbid)
    (reads : IsSchedule d.spec.schedule hourly) (free : d.spec.starting_deadline_seconds ≡ None) where
  pub late : 60 ≤ 3_661
  late = omega arith

  -- g is the history in which the first sync, a minute after one o'clock, made its Job.
  module _ (g : List Told) (x : Sample d runs hourly reads utc 3_661 late g) where
    -- the key is added again
    abbrev readied : List Told
    readied = told 2 Informer (Of.Add a) (Ok Say.Done) ∷ g

    lawful : IsLegal 3 readied
    unfolding step_of
    lawful = (refl, refl, x.legal)

    -- At the first sync one o'clock is the latest time missed.
    hour : IsLatestDue hourly utc (window_of (new d 1 1) 3_661) 3_661 3_600
    hour =
        subst (λ (n : ℕ). IsLatestDue hourly utc n 3_661 3_600)
        (sym (ap (λ (o : Option ℕ). max 60 (deadline_start o 3_661)) free))
        (record { above = omega arith; within = omega arith; is_due = due_hour; latest = quiet_minute })

    -- So its Job was started.
    started : IsStarted (state_of 3 g).store a (new d 1 1) 3_600
    started = x.started 3_600 hour

    good : Good 3 g
    good = record { short = (let few = x.few in omega (arith, few)); legal = x.legal; planned = x.planned }

    begun : IsBegun 3 (created d) a (new d 1 1) hourly
    begun = (fresh_in 3 (created d) g a (new d 1 1) hourly utc (lets 3_661 ∷ []) good
        (is_new d runs hourly reads utc 3_661 late) x.synced).begun

    -- The CronJob that stands then is the one that was created, but for its status.
    same : IsRestated (new d 1 1) started.now
    same =
        let has : Has 3 a (new d 1 1) g =
        has_synced 3 (created d) a (new d 1 1) hourly utc begun (lets 3_661 ∷ []) g good x.synced in
        let one : has.now ≡ started.now = cc (sym has.stands ∙ started.stands) in
        subst (IsRestated (new d 1 1)) one has.same

    -- Another worker may sync it.
    begins : IsReady 3 readied 6 a started.now
    begins = record {
      idle = x.idle;
      line = first_is (operations g) 2 a (state_of 3 readied).queue x.alone x.free
          (queue_agrees 3 readied lawful);
      stands = (store_agrees 3 readied lawful).crons a
          ∙ (sym ((store_agrees 3 g x.legal).crons a) ∙ started.stands);
    }

    awake : started.now.spec.suspend ≡ false
    awake = ap (λ (c : CronSpec). c.suspend) same.spec ∙ runs

    reading : IsSchedule started.now.spec.schedule hourly
    reading = subst (λ (c : CronSpec). IsSchedule c.schedule hourly) (sym same.spec) reads

    forbid_still : started.now.spec.policy ≡ Forbid
    forbid_still = ap (λ (c : CronSpec). c.policy) same.spec ∙ forbid

    -- the history after the readings of the second sync
    abbrev seen : List Told
    seen = after.seen 3 6 a started.now readied lawful begins awake hourly reading

    -- The Job stands then.
    stands : map.get (state_of 3 seen).store.jobs (made_place a 3_600) ≡ Some started.job
    stands =
        after.same_jobs 3 6 a started.now readied lawful begins awake hourly reading
        (made_place a 3_600)
        ∙ (sym ((store_agrees 3 g x.legal).jobs (made_place a 3_600)) ∙ started.made)

    -- a history to which the law applies
    pub record Second (later : List Told) : Type 0 where
      pub short : length later ≤ last_uid
      pub legal : IsLegal 3 later
      pub planned : ArePlanned later
      pub sync : IsSync 3 a utc (forbids 10_861) readied later

    -- p is a plan for what was read a minute after three o'clock.
    module _ (p : Planned) (f : IsFor seen 6 a p) (known : p.zone ≡ Some utc) (at : p.at ≡ 10_861) where
      -- the history after the second sync
      abbrev second_at : List Told
      second_at =
          after.synced_at 3 6 a started.now readied lawful begins awake hourly reading p f utc
          known

      -- Forbid doesn't let a Job start beside the first one.
      never : IsLet started.now.spec.policy (running_of started.now p.active) → ⊥
      never let_now =
          let none : running_of started.now p.active ≡ [] =
          subst (λ (q : Policy). IsLet q (running_of started.now p.active)) forbid_still let_now in
          let live = after.live_is 3 6 a started.now readied lawful begins awake hourly reading p
          f utc known in
          runs_then started.now (state_of 3 seen).store (made_place a 3_600) started.job
          (subst (λ (q : Place). IsAt q.namespace started.now.status.active (made_place a 3_600)) (sym same.key)
          started.active)
          stands
          (subst (λ (u : ℕ). is_running (uid_text u) started.job ≡ true) (sym same.uid) started.runs)
          (sym (ap (running_of started.now) live) ∙ none)

      second : Second second_at
      second =
          let c : CronJob = started.now in
          let l = lawful in
          let y = begins in
          let none = after.forbids_claim 3 6 a c readied l y awake hourly reading p f utc known never in
          let r = after.rests_legal 3 6 a c readied l y awake hourly reading p f utc known none in
          let drops = after.undropped 3 6 a c readied l y awake hourly reading p f utc known (inl none) in
          let long = after.is_short 3 6 a c readied l y awake hourly reading p f utc known x.unfed drops in
          let few = x.few in
          record {
            short = omega (arith, long, few);
            legal = r.0;
            planned = after.is_planned 3 6 a c readied l y awake hourly reading p f utc known (tt, x.planned);
            sync = after.is_sync 3 6 a c readied l y awake hourly reading p f utc known (forbids 10_861) at never
                (subst (λ (o : Option JobDraft). IfSome (option_map (λ (e : JobDraft). e.key) o)
                (λ q. map.get (state_of 3 seen).store.jobs q ≡ None)) (sym r.1) tt);
          }

    -- There is such a history.
    pub some_second : (later : List Told) × Second later
    some_second =
        let y = after.some_plan_then 3 6 a started.now readied lawful begins awake hourly reading
        utc 10_861 in
        (second_at y.0 y.1 y.2 y.3, second y.0 y.1 y.2 y.3)

    -- The first sync took place before the key was added again.
    once : Synced 3 a utc (created d) (lets 3_661 ∷ []) readied
    once = again x.synced
      where
        again : Synced 3 a utc (created d) (lets 3_661 ∷ []) g → Synced 3 a utc (created d) (lets 3_661 ∷ []) readied
        again (before, past, es, rest, sync, others, is) = (
          before,
          past,
          told 2 Informer (Of.Add a) (Ok Say.Done) ∷ es,
          rest,
          sync,
          (tt, others),
          ap (λ (h : List Told). told 2 Informer (Of.Add a) (Ok Say.Done) ∷ h) is,
        )

    -- The two took place one after the other.
    pub both_synced : Synced 3 a utc (created d) (forbids 10_861 ∷ lets 3_661 ∷ []) some_second.0
    both_synced = (readied, some_second.0, [], once, some_second.1.sync, tt, refl)

    -- At three o'clock a time was due since the first.
    later_due : (t : ℕ) × IsLatestDue hourly utc 3_661 10_861 t
    later_due = by (latest_or_none hourly utc 3_661 7_200)
      where
        by : ((t : ℕ) × IsLatestDue hourly utc 3_661 10_861 t) ⊎ IsQuiet hourly utc 3_661 10_861
            → (t : ℕ) × IsLatestDue hourly utc 3_661 10_861 t
        by (inl h) = h
        by (inr q) = absurd (clash (due hourly utc 10_800) (q 10_800 (omega arith) (omega arith)) due_three)

    -- The interval of the second sync begins at the first.
    start : interval_start (new d 1 1) (lets 3_661 ∷ []) 10_861 ≡ 3_661
    start = ap (λ (o : Option ℕ). max 3_661 (deadline_start o 10_861)) free

    -- So the second sync tells that the Job of the first still runs.
    pub tells_so : IsIn JobAlreadyActive some_second.1.sync.plan.steps.reasons
    tells_so =
        let y = some_second.1 in
        (forbidden_holds_back 3 (created d) readied some_second.0 a (new d 1 1) hourly utc (lets 3_661 ∷ []) 10_861
        y.short y.legal y.planned begun (omega arith, (late, tt)) once y.sync).tells later_due.0
        (subst (λ (n : ℕ). IsLatestDue hourly utc n 10_861 later_due.0) (sym start) later_due.1)

    -- And the one Job that was made is that of one o'clock.
    pub one_job : made_for 3 1 some_second.0 ≡ 3_600 ∷ []
    one_job =
        let y = some_second.1 in
        let row : List Moment = forbids 10_861 ∷ lets 3_661 ∷ [] in
        by (every_time_since 3 (created d) some_second.0 a (new d 1 1) hourly utc row y.short y.legal y.planned
        (is_new d runs hourly reads utc 3_661 late) (omega arith, (late, tt)) both_synced)
      where
        first : interval_start (new d 1 1) [] 3_661 ≡ 60
        first = ap (λ (o : Option ℕ). max 60 (deadline_start o 3_661)) free

        by : AreLatest hourly utc (new d 1 1) (forbids 10_861 ∷ lets 3_661 ∷ []) (made_for 3 1 some_second.0)
            → made_for 3 1 some_second.0 ≡ 3_600 ∷ []
        by (inl (quiet, rest)) =
            let still : IsQuiet hourly utc 60 3_661 = subst (λ (n : ℕ). IsQuiet hourly utc n 3_661) first quiet in
            absurd (clash (due hourly utc 3_600) (still 3_600 (omega arith) (omega arith)) due_hour)
        by (inr (time, rest, latest, same, none)) =
            same
            ∙ (ap (λ (t : ℕ). t ∷ rest) (one_latest hourly utc 60 3_661 time 3_600
            (subst (λ (n : ℕ). IsLatestDue hourly utc n 3_661 time) first latest)
            (record { above = omega arith; within = omega arith; is_due = due_hour; latest = quiet_minute }))
            ∙ ap (λ (l : List ℕ). 3_600 ∷ l) none)

-- So there is: with one Job, for one o'clock, a minute after three o'clock, though two times were due
-- since, and with the reason for that.
pub forbid_sample : (d : CronJobDraft) (runs : d.spec.suspend ≡ false) → d.spec.policy ≡ Forbid
    → (reads : IsSchedule d.spec.schedule hourly) → d.spec.starting_deadline_seconds ≡ None
    → (g : List Told) × Synced 3 a utc (created d) (forbids 10_861 ∷ lets 3_661 ∷ []) g
    × (made_for 3 1 g ≡ 3_600 ∷ [])
forbid_sample d runs forbid reads free =
    let x = sample d runs hourly reads utc 3_661 (late d runs forbid reads free) in (
      (some_second d runs forbid reads free x.0 x.1).0,
      both_synced d runs forbid reads free x.0 x.1,
      one_job d runs forbid reads free x.0 x.1,
    )
