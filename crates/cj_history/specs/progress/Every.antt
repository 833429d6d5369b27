-- Syncs of one CronJob at given moments, and the times for which its Jobs are made then: Kubernetes
-- CronJob documentation, "CronJob limitations", where it is a wish ("a CronJob creates a Job object
-- approximately once per execution time of its schedule"), and "Concurrency policy".
use Rattle.std.specs.Prelude.{◌≡◌, ◌≢◌, ◌⊎◌, ℕ, ◌+◌, ◌==◌, ◌<◌, ◌≤◌, true, false, if◌then◌else◌, List, [], ◌∷◌, ◌++◌, length, Option, Some, None, Ok, option_map, unwrap_or, IfSome}
use mathlib.Core.List.{reverse}
use Rattle.std.specs.FinMap as map
use Rattle.cj_types.specs.Keys.{Place}
use Rattle.cj_types.specs.Uids.{uid_text, last_uid}
use Rattle.cj_types.specs.declared.cron.CronJob.{CronJob}
use Rattle.cj_types.specs.declared.cron.CronJobDraft.{CronJobDraft}
use Rattle.cj_types.specs.declared.job.Job.{Job}
use Rattle.cj_types.specs.declared.job.JobDraft.{JobDraft}
use Rattle.cj_types.specs.declared.policy.Policy.{Policy}
use Rattle.cj_types.specs.declared.policy.Policy.TheVariants.{Forbid}
use Rattle.cj_types.specs.declared.policy.Reason.TheVariants.{JobAlreadyActive}
use Rattle.cj_schedule.specs.Matches.{Sets}
use Rattle.cj_schedule.specs.Grammar.{IsSchedule}
use Rattle.cj_zone.specs.declared.zone.Zone.{Zone}
use Rattle.cj_due.specs.Due.{due, IsQuiet, IsLatestDue, missed_times, missed_count}
use Rattle.cj_due.specs.Window.{deadline_start, lower_end_of}
use Rattle.cj_status.specs.declared.refs.JobRef.{JobRef}
use Rattle.cj_status.specs.Mine.{is_running}
use Rattle.cj_store.specs.Content.{Content}
use Rattle.cj_decide.specs.Decision.{Planned, running_of}
use Rattle.cj_decide.specs.laws.Laws.{IsIn}
use Rattle.cj_calls.specs.Rows.{Told}
use Rattle.cj_calls.specs.declared.call.Call.{Call}
use Rattle.cj_calls.specs.declared.call.Call.TheVariants as Of
use Rattle.cj_calls.specs.declared.reply.Reply.TheVariants as Say
use Rattle.cj_state.specs.Legal.{IsLegal, ArePlanned, state_of}
use Rattle.cj_world_laws.specs.legal.InFlightSyncs.{sync}
use Rattle.cj_world_laws.specs.once.Once.{Claimed, makes}
use Rattle.cj_history.specs.store.Writes.{entry_written, writes}
use Rattle.cj_history.specs.progress.Undisturbed.{object_of, is_of, AreAside, entry}
use Rattle.cj_history.specs.progress.Syncs.{readings, works_off, IsReady, IsFor, IsLet}

-- ---- the moments

-- a sync's moment, at which the policy let a Job start, or forbade it
-- rule: every-time
pub data Moment : Type 0 where
  lets : ℕ → Moment
  forbids : ℕ → Moment

abbrev pub instant_of : Moment → ℕ
instant_of (lets t) = t
instant_of (forbids t) = t

-- so the policy did, beside the Jobs that ran
-- rule: every-time
abbrev pub IsSaid : Moment → Policy → List JobRef → Type 0
IsSaid (lets t) policy running = IsLet policy running
IsSaid (forbids t) policy running = IsLet policy running → ⊥

-- ---- the syncs

-- the worker's calls, each after what others called aside, led from a history to another
-- rule: undisturbed
abbrev pub Led : ℕ → ℕ → Place → Option Place → List Told → List Call → List Told → Type 0
Led window w k q h [] g = g ≡ h
Led window w k q h (call ∷ calls) g =
    (es : List Told) × AreAside w k q es h
    × Led window w k q (entry window (es ++ h) w call ∷ (es ++ h)) calls g

-- the name of the Job that the plan makes
abbrev pub name_of : Planned → Option Place
name_of p = option_map (λ (d : JobDraft). d.key) p.steps.make

-- a sync of the key that nobody disturbed, from its Take to its Finish: its claim was made at the
-- moment and in the zone, the policy said so of what its live read found, and the name of its Job
-- wasn't taken (else the making is refused, and its time gets no Job)
-- rule: every-time
pub record IsSync (window : ℕ) (k : Place) (z : Zone) (m : Moment) (before after : List Told)
    : Type 0 where
  pub worker : ℕ
  pub cron : CronJob
  pub ready : IsReady window before worker k cron
  pub read : List Told
  pub reads : Led window worker k None (entry window before worker Of.Take ∷ before) readings read
  pub plan : Planned
  pub decides : IsFor read worker k plan
  pub at : plan.at ≡ instant_of m
  pub zone : plan.zone ≡ Some z
  pub said : IsSaid m cron.spec.policy (running_of cron plan.active)
  pub free : IfSome (name_of plan) (λ q. map.get (state_of window read).store.jobs q ≡ None)
  pub works : Led window worker k (name_of plan) read (works_off plan) after

-- entries after a history, by whomever, none of which writes the CronJob (one that changes its
-- schedule or suspends it changes which times are due)
-- rule: every-time
abbrev pub AreOthers : Place → List Told → List Told → Type 0
AreOthers k [] h = Unit {0}
AreOthers k (e ∷ es) h =
    IfSome (entry_written (writes (es ++ h)) (sync (es ++ h) e.caller.number) e.call e.answer)
    (λ x. is_of k None (object_of x) ≡ false)
    × AreOthers k es h

-- from a history to another there were such syncs at these moments, of which the latest comes
-- first, and nothing else wrote the CronJob; all in one zone, since by another a time may be due
-- that an earlier sync passed over: at 12:50 none is, and at 12:51 by a clock that is half an hour
-- ahead 12:30 is
-- rule: every-time
abbrev pub Synced : ℕ → Place → Zone → List Told → List Moment → List Told → Type 0
Synced window k z start [] g = (es : List Told) × AreOthers k es start × (g ≡ es ++ start)
Synced window k z start (m ∷ ms) g =
    (before after es : List Told) × Synced window k z start ms before
    × IsSync window k z m before after
    × AreOthers k es after × (g ≡ es ++ after)

-- ---- the intervals

-- the last of these moments at which the policy let a Job start; where it didn't yet, the last time
-- that was scheduled
-- rule: every-time
abbrev pub last_let : CronJob → List Moment → Option ℕ
last_let cron [] = cron.status.last_schedule_time
last_let cron (lets t ∷ ms) = Some t
last_let cron (forbids t ∷ ms) = last_let cron ms

-- where the next interval begins: at that moment, or at the creation where there was none
abbrev pub looked_upto : CronJob → List Moment → ℕ
looked_upto cron ms = unwrap_or (last_let cron ms) cron.meta.created

-- and what of it is in time at a moment, as of a window (cj_due): not before the deadline's start
-- rule: every-time
abbrev pub interval_start : CronJob → List Moment → ℕ → ℕ
interval_start cron ms t = lower_end_of (last_let cron ms) cron.meta.created
    cron.spec.starting_deadline_seconds t

-- the last of these moments; where there is none yet, where the first interval begins
abbrev pub last_moment : CronJob → List Moment → ℕ
last_moment cron [] = looked_upto cron []
last_moment cron (m ∷ ms) = instant_of m

-- no moment is before the one before it: a time that was too late at 13:01, by a deadline of half a
-- minute, would be in time again at 13:00
abbrev pub GoOn : CronJob → List Moment → Type 0
GoOn cron [] = Unit {0}
GoOn cron (m ∷ ms) = (last_moment cron ms ≤ instant_of m) × GoOn cron ms

-- the times are, of each interval up to a moment at which the policy let a Job start, the greatest
-- that is due in it, if there is one
-- rule: every-time
abbrev pub AreLatest : Sets → Zone → CronJob → List Moment → List ℕ → Type 0
AreLatest s z cron [] times = times ≡ []
AreLatest s z cron (lets t ∷ ms) times =
    (IsQuiet s z (interval_start cron ms t) t × AreLatest s z cron ms times)
    ⊎ ((time : ℕ) × (rest : List ℕ) × IsLatestDue s z (interval_start cron ms t) t time
    × (times ≡ time ∷ rest)
    × AreLatest s z cron ms rest)
AreLatest s z cron (forbids t ∷ ms) times = AreLatest s z cron ms times

-- ---- the Jobs

-- the times of those of these claims that are for the CronJob with this uid
abbrev pub times_of : ℕ → List Claimed → List ℕ
times_of u [] = []
times_of u (m ∷ ms) = if m.owner == u then m.time ∷ times_of u ms else times_of u ms

-- the times for which Jobs were made for it, each as often as one was, the last made first
-- rule: every-time
abbrev pub made_for : ℕ → ℕ → List Told → List ℕ
made_for window u h = times_of u (makes window h)

-- the CronJob stands, isn't suspended (else no Job is made, whatever is due), and has that schedule
-- (a text that is none has no due times); and the last time that was scheduled for it, if there is
-- one, has its Job (else one who claimed it before may still make that Job)
-- rule: every-time
pub record IsBegun (window : ℕ) (h : List Told) (k : Place) (cron : CronJob) (s : Sets)
    : Type 0 where
  pub stands : map.get (state_of window h).store.crons k ≡ Some cron
  pub runs : cron.spec.suspend ≡ false
  pub reads : IsSchedule cron.spec.schedule s
  pub last : IfSome cron.status.last_schedule_time (λ t. IsIn t (made_for window cron.meta.uid h))

-- from such a history on, where there are only such syncs, at moments that go on, the Jobs that are
-- made for the CronJob are one for the greatest due time of each interval, and no others
-- rule: every-time
abbrev pub EveryTime : Type 0
EveryTime = (window : ℕ) (start g : List Told) (k : Place) (cron : CronJob) (s : Sets) (z : Zone)
    (ms : List Moment)
    → length g ≤ last_uid → IsLegal window g → ArePlanned g → IsBegun window start k cron s
    → GoOn cron ms → Synced window k z start ms g
    → (times : List ℕ) × AreLatest s z cron ms times
    × (made_for window cron.meta.uid g ≡ times ++ made_for window cron.meta.uid start)

-- ---- what the policy says

-- it let a Job start at each of these moments
abbrev pub AreLet : List Moment → Type 0
AreLet [] = Unit {0}
AreLet (lets t ∷ ms) = AreLet ms
AreLet (forbids t ∷ ms) = ⊥

-- so does each policy but Forbid, at each moment of such syncs
-- rule: every-time
abbrev pub LetsAlways : Type 0
LetsAlways = (window : ℕ) (start g : List Told) (k : Place) (cron : CronJob) (s : Sets) (z : Zone)
    (ms : List Moment)
    → length g ≤ last_uid → IsLegal window g → ArePlanned g → IsBegun window start k cron s
    → Synced window k z start ms g → cron.spec.policy ≢ Forbid
    → AreLet ms

-- a sync made no Job, and tells that one runs, where a time is due in its interval
-- rule: every-time
pub record HoldsBack (window : ℕ) (s : Sets) (z : Zone) (cron : CronJob) (ms : List Moment) (t : ℕ)
    (p : Planned) (before after : List Told) : Type 0 where
  pub none : made_for window cron.meta.uid after ≡ made_for window cron.meta.uid before
  pub tells : (time : ℕ) → IsLatestDue s z (interval_start cron ms t) t time
      → IsIn JobAlreadyActive p.steps.reasons

-- so does one at whose moment the policy forbids it, after such syncs
-- rule: every-time
abbrev pub ForbiddenHoldsBack : Type 0
ForbiddenHoldsBack = (window : ℕ) (start before after : List Told) (k : Place) (cron : CronJob)
    (s : Sets) (z : Zone) (ms : List Moment) (t : ℕ)
    → length after ≤ last_uid → IsLegal window after → ArePlanned after
    → IsBegun window start k cron s
    → GoOn cron (forbids t ∷ ms) → Synced window k z start ms before
    → (y : IsSync window k z (forbids t) before after)
    → HoldsBack window s z cron ms t y.plan before after

-- ---- from the creation on

-- the first entry is the creation of the CronJob, which isn't suspended and has that schedule
pub record IsNew (h : List Told) (k : Place) (cron : CronJob) (s : Sets) : Type 0 where
  pub creation : Told
  pub before : List Told
  pub is : h ≡ creation ∷ before
  pub draft : CronJobDraft
  pub key : draft.key ≡ k
  pub now : ℕ
  pub call : creation.call ≡ Of.CreateCron draft now
  pub answer : creation.answer ≡ Ok (Say.Cron cron)
  pub runs : cron.spec.suspend ≡ false
  pub reads : IsSchedule cron.spec.schedule s

-- so from its creation on they are all Jobs that are made for it
-- rule: every-time
abbrev pub EveryTimeSince : Type 0
EveryTimeSince = (window : ℕ) (start g : List Told) (k : Place) (cron : CronJob) (s : Sets)
    (z : Zone) (ms : List Moment)
    → length g ≤ last_uid → IsLegal window g → ArePlanned g → IsNew start k cron s
    → GoOn cron ms → Synced window k z start ms g
    → AreLatest s z cron ms (made_for window cron.meta.uid g)

-- ---- where moments are near

-- of no interval more than one time is due (of 13:00 and 14:00, between syncs at 12:30 and 14:30,
-- only the later gets its Job), and the deadline cuts none off (with one of half a minute a sync at
-- 13:01 makes no Job for 13:00)
-- rule: every-time
abbrev pub AreNear : Sets → Zone → CronJob → List Moment → Type 0
AreNear s z cron [] = Unit {0}
AreNear s z cron (lets t ∷ ms) =
    (missed_count s z (looked_upto cron ms) t ≤ 1)
    × IsQuiet s z (looked_upto cron ms) (deadline_start cron.spec.starting_deadline_seconds t)
    × AreNear s z cron ms
AreNear s z cron (forbids t ∷ ms) = AreNear s z cron ms

-- then the greatest due times of the intervals are all that are due up to the last moment at which
-- the policy let a Job start
-- rule: every-time
abbrev pub EachDueTime : Type 0
EachDueTime = (s : Sets) (z : Zone) (cron : CronJob) (ms : List Moment) (times : List ℕ)
    → GoOn cron ms → AreNear s z cron ms
    → AreLatest s z cron ms times
    → reverse times ≡ missed_times s z (looked_upto cron []) (looked_upto cron ms)

-- ---- a sync a minute

-- each moment is at most a minute after the one before it
abbrev pub AreMinutely : CronJob → List Moment → Type 0
AreMinutely cron [] = Unit {0}
AreMinutely cron (m ∷ ms) = (instant_of m ≤ last_moment cron ms + 60) × AreMinutely cron ms

-- there is no deadline, or it isn't under a minute: with one of half a minute, and syncs at
-- 12:59:40 and 13:00:40, 13:00 would be too late
abbrev pub IsAmple : Option ℕ → Type 0
IsAmple None = Unit {0}
IsAmple (Some deadline) = 60 ≤ deadline

-- with a sync a minute from the creation on, and a policy other than Forbid, the Jobs that are made
-- for the CronJob are one for each due time up to the last moment, in their order, and no others
-- rule: every-time
abbrev pub EachMinute : Type 0
EachMinute = (window : ℕ) (start g : List Told) (k : Place) (cron : CronJob) (s : Sets) (z : Zone)
    (ms : List Moment)
    → length g ≤ last_uid → IsLegal window g → ArePlanned g → IsNew start k cron s
    → cron.spec.policy ≢ Forbid
    → GoOn cron ms → AreMinutely cron ms → IsAmple cron.spec.starting_deadline_seconds
    → Synced window k z start ms g
    → reverse (made_for window cron.meta.uid g)
    ≡ missed_times s z (looked_upto cron []) (last_moment cron ms)

-- ---- where each Job ends before the next due time

-- no Job of the CronJob with this uid is unfinished
abbrev pub AllEnded : ℕ → Content → Type 0
AllEnded u s = (q : Place) (job : Job) → map.get s.jobs q ≡ Some job
    → is_running (uid_text u) job ≡ false

-- where a time became due since the moment before a sync's, each Job of the CronJob had ended when
-- the sync looked what runs: it ended before the next due time
-- rule: every-time
abbrev pub EndInTime : (window : ℕ) (k : Place) (cron : CronJob) (s : Sets) (z : Zone)
    (start : List Told) (ms : List Moment) (g : List Told) → Synced window k z start ms g → Type 0
EndInTime window k cron s z start [] g y = Unit {0}
EndInTime window k cron s z start (m ∷ ms) g (before, after, es, rest, sync_then, others, is) =
    ((time : ℕ) → last_moment cron ms < time → time ≤ instant_of m → due s z time ≡ true
    → AllEnded cron.meta.uid (state_of window sync_then.read).store)
    × EndInTime window k cron s z start ms before rest

-- then with a sync a minute from the creation on, under any policy, the Jobs that are made for the
-- CronJob are one for each due time up to the last moment, in their order, and no others
-- rule: every-time
abbrev pub EachEnded : Type 0
EachEnded = (window : ℕ) (start g : List Told) (k : Place) (cron : CronJob) (s : Sets) (z : Zone)
    (ms : List Moment)
    → length g ≤ last_uid → IsLegal window g → ArePlanned g → IsNew start k cron s
    → GoOn cron ms → AreMinutely cron ms → IsAmple cron.spec.starting_deadline_seconds
    → (y : Synced window k z start ms g) → EndInTime window k cron s z start ms g y
    → reverse (made_for window cron.meta.uid g)
    ≡ missed_times s z (looked_upto cron []) (last_moment cron ms)
