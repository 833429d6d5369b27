-- A history to which every_time_law applies: a CronJob is created, its key is added, and a worker
-- syncs it, at any moment from the creation on, with any policy and schedule and in any zone.
use Rattle.std.proofs.Common.{◌≡◌, inl, inr, ℕ, ◌≤◌, max, false, List, [], ◌∷◌, length, Option, Some, None, refl, ap, subst, ◌∙◌, arith}
use Rattle.std.specs.Prelude.{Ok, IfSome}
use Rattle.std.specs.FinMap as map
use Rattle.cj_types.specs.Keys.{Place}
use Rattle.cj_types.specs.Made.{made_place}
use Rattle.cj_types.specs.declared.cron.CronJob.{CronJob}
use Rattle.cj_types.specs.declared.cron.CronJobDraft.{CronJobDraft}
use Rattle.cj_schedule.specs.Matches.{Sets}
use Rattle.cj_schedule.specs.Grammar.{IsSchedule}
use Rattle.cj_zone.specs.declared.zone.Zone.{Zone}
use Rattle.cj_due.specs.Due.{due, IsQuiet, IsLatestDue}
use Rattle.cj_due.specs.Window.{deadline_start, window_of}
use Rattle.cj_decide.specs.Decision.{Planned, running_of}
use Rattle.cj_calls.specs.declared.caller.Role.TheVariants.{Informer}
use Rattle.cj_calls.specs.declared.call.Call.TheVariants as Of
use Rattle.cj_calls.specs.declared.reply.Reply.TheVariants as Say
use Rattle.cj_calls.specs.Rows.{Told}
use Rattle.cj_state.specs.Legal.{IsLegal, ArePlanned, state_of}
use Rattle.cj_world_laws.specs.legal.InFlightSyncs.{sync}
use Rattle.cj_history.specs.store.Mirrors.{fed}
use Rattle.cj_history.specs.queue.Deeds.{operations}
use Rattle.cj_history.specs.queue.LookBacks.{holder}
use Rattle.cj_history.specs.progress.Syncs.{IsFor, IsLet, IsStarted}
use Rattle.cj_history.specs.progress.Every.{lets, name_of, Synced, interval_start, AreLatest, made_for, IsNew}
use Rattle.cj_history.proofs.StoreLemmas.Sample.{a, told, created, named, new}
use Rattle.cj_history.proofs.ProgressLemmas.Missed.{clash, one_latest, some_missed}
use Rattle.cj_history.proofs.ProgressLemmas.Intervals.{NoneOrLatest}
use Rattle.cj_history.proofs.ProgressLemmas.Synced.{lets_alone}
use Rattle.cj_history.proofs.ProgressLemmas.Since.{every_time_since}
use Rattle.cj_history.proofs.ProgressLemmas.SyncSample.{ready, legal_ready, is_ready}
use Rattle.cj_history.proofs.ProgressLemmas.HourSample.{hourly, utc, due_hour, quiet_minute}
use Rattle.cj_history.proofs.ProgressLemmas.OneKey.{IsAlone, alone_with, alone_first}
use Rattle.cj_history.proofs.ProgressLemmas.Runs as after

-- a draft of a CronJob that isn't suspended, its schedule, a zone, and a moment at or after its
-- creation
module _ (d : CronJobDraft) (runs : d.spec.suspend ≡ false) (s : Sets) (reads : IsSchedule d.spec.schedule s)
    (z : Zone) (t : ℕ) (late : 60 ≤ t) where
  -- a history to which the law applies, after which another worker may sync the CronJob
  pub record Sample (g : List Told) : Type 0 where
    pub few : length g ≤ 11
    pub legal : IsLegal 3 g
    pub planned : ArePlanned g
    pub synced : Synced 3 a z (created d) (lets t ∷ []) g
    pub alone : IsAlone (operations g) a
    pub free : holder (operations g) a ≡ None
    pub unfed : fed 3 g ≡ 0
    pub idle : sync g 6 ≡ None
    pub started : (time : ℕ) → IsLatestDue s z (window_of (new d 1 1) t) t time
        → IsStarted (state_of 3 g).store a (new d 1 1) time

  -- the history after the readings
  abbrev pub seen : List Told
  seen = after.seen 3 5 a (new d 1 1) (ready d) (legal_ready d) (is_ready d) runs s reads

  -- It is legal.
  pub legal_seen : IsLegal 3 seen
  legal_seen = (after.after_readings 3 5 a (new d 1 1) (ready d) (legal_ready d) (is_ready d) runs s reads).0

  -- No Job stands.
  none_stands : (q : Place) → map.get (state_of 3 seen).store.jobs q ≡ None
  none_stands q = after.same_jobs 3 5 a (new d 1 1) (ready d) (legal_ready d) (is_ready d) runs s reads q

  -- No name is taken.
  pub all_free : (o : Option Place) → IfSome o (λ q. map.get (state_of 3 seen).store.jobs q ≡ None)
  all_free None = tt
  all_free (Some q) = none_stands q

  -- No other key was added.
  alone_before : IsAlone (operations (ready d)) a
  alone_before =
      alone_with (operations (created d)) _ a refl (alone_with [] _ a tt (alone_first a))

  -- p is a plan for what was read, in the zone.
  module _ (p : Planned) (f : IsFor seen 5 a p) (known : p.zone ≡ Some z) (at : p.at ≡ t) where
    -- the history after the sync
    abbrev synced_at : List Told
    synced_at = after.synced_at 3 5 a (new d 1 1) (ready d) (legal_ready d) (is_ready d) runs s reads p f z known

    -- It found no Job, since its CronJob has no active name.
    none_runs : running_of (new d 1 1) p.active ≡ []
    none_runs = ap (running_of (new d 1 1))
        (after.live_is 3 5 a (new d 1 1) (ready d) (legal_ready d) (is_ready d) runs s reads p f z known)

    -- So the policy lets a Job start.
    let_now : IsLet d.spec.policy (running_of (new d 1 1) p.active)
    let_now = lets_alone d.spec.policy (running_of (new d 1 1) p.active) none_runs

    -- its calls are accepted, nobody holds the key after them, and a Job is made where a time was
    -- missed
    record Worked : Type 0 where
      legal : IsLegal 3 synced_at
      free : holder (operations synced_at) a ≡ None
      started : (time : ℕ) → IsLatestDue s z (window_of (new d 1 1) p.at) p.at time
          → IsStarted (state_of 3 synced_at).store a (new d 1 1) time

    worked : Worked
    worked =
        by (after.either_missed 3 5 a (new d 1 1) (ready d) (legal_ready d) (is_ready d) runs s reads p f z known)
      where
        by : NoneOrLatest s z (window_of (new d 1 1) p.at) p.at → Worked
        by (inl none) =
            let r = after.rests_legal 3 5 a (new d 1 1) (ready d) (legal_ready d) (is_ready d) runs s reads p f z known
            (after.none_claimed 3 5 a (new d 1 1) (ready d) (legal_ready d) (is_ready d) runs s reads p f z known none)
            in
            record {
              legal = r.0;
              free = r.2;
              started = λ time h. (
                  let some = some_missed s z (window_of (new d 1 1) p.at) p.at time h in absurd (omega (arith, none, some)));
            }
        by (inr (time, latest)) =
            let r = after.makes_legal 3 5 a (new d 1 1) (ready d) (legal_ready d) (is_ready d) runs s reads p f z known
            time latest let_now (none_stands (made_place a time)) in
            record {
              legal = r.0;
              free = r.2;
              started = λ other h. subst (IsStarted (state_of 3 synced_at).store a (new d 1 1))
                  (one_latest s z (window_of (new d 1 1) p.at) p.at time other latest h) r.1.started;
            }

    sample_of : Sample synced_at
    sample_of =
        let l = legal_ready d in
        let r = is_ready d in
        let c : CronJob = new d 1 1 in
        record {
          few = after.is_short 3 5 a c (ready d) l r runs s reads p f z known refl
              (after.undropped 3 5 a c (ready d) l r runs s reads p f z known (inr none_runs));
          legal = worked.legal;
          planned = after.is_planned 3 5 a c (ready d) l r runs s reads p f z known (tt, (tt, tt));
          synced = (
            ready d,
            synced_at,
            [],
            (told 2 Informer (Of.Add a) (Ok Say.Done) ∷ [], (tt, tt), refl),
            after.is_sync 3 5 a c (ready d) l r runs s reads p f z known (lets t) at let_now (all_free (name_of p)),
            tt,
            refl,
          );
          alone = after.leaves_alone 3 5 a c (ready d) l r runs s reads p f z known alone_before;
          free = worked.free;
          unfed = after.leaves_unfed 3 5 a c (ready d) l r runs s reads p f z known;
          idle = after.leaves_aside 3 5 a c (ready d) l r runs s reads p f z known 6 refl;
          started = subst (λ (n : ℕ). (time : ℕ) → IsLatestDue s z (window_of c n) n time
              → IsStarted (state_of 3 synced_at).store a c time) at worked.started;
        }

  -- There is such a history.
  pub sample : (g : List Told) × Sample g
  sample =
      let x = after.some_plan_then 3 5 a (new d 1 1) (ready d) (legal_ready d) (is_ready d) runs s reads z t in
      (after.synced_at 3 5 a (new d 1 1) (ready d) (legal_ready d) (is_ready d) runs s reads x.0 x.1 z x.2, sample_of x.0 x.1 x.2 x.3)

  -- It begins with the creation.
  pub is_new : IsNew (created d) a (new d 1 1) s
  is_new = record {
    creation = _;
    before = [];
    is = refl;
    draft = named d;
    key = refl;
    now = 60;
    call = refl;
    answer = refl;
    runs = runs;
    reads = reads;
  }

  -- So the Jobs that are made in it are for the greatest due time from the creation to the moment,
  -- if there is one.
  pub sample_times : AreLatest s z (new d 1 1) (lets t ∷ []) (made_for 3 1 sample.0)
  sample_times =
      let y = sample.1 in
      let few = y.few in
      every_time_since 3 (created d) sample.0 a (new d 1 1) s z (lets t ∷ []) (omega (arith, few)) y.legal y.planned is_new
      (late, tt) y.synced

-- Where an hourly CronJob without a deadline is synced a minute after one o'clock, its one Job is
-- for one o'clock.
pub sample_hour : (d : CronJobDraft) (runs : d.spec.suspend ≡ false)
    (reads : IsSchedule d.spec.schedule hourly) → d.spec.starting_deadline_seconds ≡ None
    → made_for 3 1 (sample d runs hourly reads utc 3_661 (omega arith)).0 ≡ 3_600 ∷ []
sample_hour d runs reads free = by (sample_times d runs hourly reads utc 3_661 (omega arith))
  where
    start : interval_start (new d 1 1) [] 3_661 ≡ 60
    start = ap (λ (o : Option ℕ). max 60 (deadline_start o 3_661)) free

    hour : IsLatestDue hourly utc 60 3_661 3_600
    hour = record { above = omega arith; within = omega arith; is_due = due_hour; latest = quiet_minute }

    by : AreLatest hourly utc (new d 1 1) (lets 3_661 ∷ [])
        (made_for 3 1 (sample d runs hourly reads utc 3_661 (omega arith)).0)
        → made_for 3 1 (sample d runs hourly reads utc 3_661 (omega arith)).0 ≡ 3_600 ∷ []
    by (inl (quiet, rest)) =
        let still : IsQuiet hourly utc 60 3_661 = subst (λ (n : ℕ). IsQuiet hourly utc n 3_661) start quiet in
        absurd (clash (due hourly utc 3_600) (still 3_600 (omega arith) (omega arith)) due_hour)
    by (inr (time, rest, latest, same, none)) =
        same
        ∙ (ap (λ (x : ℕ). x ∷ rest) (one_latest hourly utc 60 3_661 time 3_600
        (subst (λ (n : ℕ). IsLatestDue hourly utc n 3_661 time) start latest) hour)
        ∙ ap (λ (l : List ℕ). 3_600 ∷ l) none)
