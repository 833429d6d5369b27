-- Syncs of a CronJob that keep up with a clock: before it goes on, all is done that was due. Then
-- no due time is passed over: Kubernetes CronJob documentation, "CronJob limitations", where it is
-- a wish.
use Rattle.std.specs.Prelude.{◌≡◌, ◌≢◌, ℕ, ◌+◌, ◌-◌, ◌<◌, ◌≤◌, List, [], ◌∷◌, ◌++◌, length, Option, Some}
use mathlib.Core.List.{reverse}
use Rattle.cj_types.specs.Keys.{Place}
use Rattle.cj_types.specs.Uids.{last_uid}
use Rattle.cj_types.specs.declared.cron.CronJob.{CronJob}
use Rattle.cj_types.specs.declared.policy.Policy.TheVariants.{Forbid}
use Rattle.cj_types.specs.declared.policy.Reason.{Reason}
use Rattle.cj_types.specs.declared.policy.Reason.TheVariants.{JobAlreadyActive}
use Rattle.cj_schedule.specs.Matches.{Sets}
use Rattle.cj_zone.specs.declared.zone.Zone.{Zone}
use Rattle.cj_due.specs.Due.{reach, IsQuiet, missed_times}
use Rattle.cj_decide.specs.laws.Laws.{IsIn}
use Rattle.cj_calls.specs.Rows.{Told}
use Rattle.cj_calls.specs.declared.call.Call.{Call}
use Rattle.cj_calls.specs.declared.call.Call.TheVariants as Of
use Rattle.cj_calls.specs.declared.end.End.TheVariants.{Well}
use Rattle.cj_state.specs.Legal.{IsLegal, ArePlanned}
use Rattle.cj_world_laws.specs.legal.InFlightSyncs.{sync}
use Rattle.cj_history.specs.queue.Deeds.{next_of}
use Rattle.cj_history.specs.progress.Kept.{IsEnd, NoneTakes}
use Rattle.cj_history.specs.progress.Every.{Moment, instant_of, made_for, looked_upto, last_moment, IsBegun, IsNew, IsAmple, EndInTime}
use Rattle.cj_history.specs.progress.Apart.{Holds, IsFree, KeepApart, IsClock, HaveSynced}

-- ---- from when on a sync is awaited

-- the key's last sync ended well, with that next time of its plan or none, and the key wasn't taken
-- since
-- rule: syncs-keep-up
pub record IsOver (h : List Told) (k : Place) (next : Option ℕ) : Type 0 where
  pub after : List Told
  pub entry : Told
  pub before : List Told
  pub is : h ≡ after ++ entry ∷ before
  pub end : IsEnd before k Well entry
  pub next_is : next_of (sync before entry.caller.number) ≡ next
  pub untaken : NoneTakes k after

-- a sync of the CronJob is awaited from this time on: from the beginning of the first interval on,
-- where its key wasn't taken yet, or from the next time of its last sync on
-- rule: syncs-keep-up
pub data IsAwaited (k : Place) (cron : CronJob) (start h : List Told) (t : ℕ) : Type 0 where
  first : (es : List Told) → h ≡ es ++ start → NoneTakes k es → t ≡ looked_upto cron [] + 1
      → IsAwaited k cron start h t
  again : IsOver h k (Some t) → IsAwaited k cron start h t

-- ---- the clock

-- the clock goes from one moment to another with the next entry: by at most a minute; and only
-- where nobody holds the key, and no sync is awaited from a time on that has come
-- rule: syncs-keep-up
pub record GoesOn (k : Place) (cron : CronJob) (start h : List Told) (now next : ℕ) : Type 0 where
  pub minute : next ≤ now + 60
  pub free : now < next → IsFree k h
  pub ahead : now < next → (t : ℕ) → IsAwaited k cron start h t → now < t

-- so it does with each of these entries after the history
-- rule: syncs-keep-up
abbrev pub KeepUp : Place → CronJob → (List Told → ℕ) → List Told → List Told → Type 0
KeepUp k cron clock [] start = Unit {0}
KeepUp k cron clock (e ∷ es) start =
    GoesOn k cron start (es ++ start) (clock (es ++ start)) (clock (e ∷ (es ++ start)))
    × KeepUp k cron clock es start

-- ---- what comes of it

-- up to a minute before each moment nothing was due since the one before it: what became due was
-- synced within a minute. So it is with a sync a minute, and with one a night of what is due then
-- rule: syncs-keep-up
abbrev pub ArePrompt : Sets → Zone → CronJob → List Moment → Type 0
ArePrompt s z cron [] = Unit {0}
ArePrompt s z cron (m ∷ ms) =
    IsQuiet s z (last_moment cron ms) (instant_of m - 60) × ArePrompt s z cron ms

-- there were such syncs, and nothing is due since the last one
-- rule: syncs-keep-up
pub record HaveKeptUp (window : ℕ) (k : Place) (cron : CronJob) (s : Sets) (z : Zone) (now : ℕ)
    (start g : List Told) : Type 0 where
  pub syncs : HaveSynced window k cron z now start g
  pub prompt : ArePrompt s z cron syncs.moments
  pub quiet : IsQuiet s z (last_moment cron syncs.moments) now

-- where entries are as for SyncsGoOn, from within a minute of the beginning on, and the clock so
-- goes on with each, the syncs keep up with it, if none is awaited in the end from a time on that
-- has come; for 3,000 days, as far as a plan looks for the next time
-- rule: syncs-keep-up
abbrev pub SyncsKeepUp : Type 0
SyncsKeepUp = (window : ℕ) (start more : List Told) (k : Place) (cron : CronJob) (s : Sets)
    (z : Zone) (clock : List Told → ℕ)
    → length (more ++ start) ≤ last_uid → IsLegal window (more ++ start)
    → ArePlanned (more ++ start)
    → IsBegun window start k cron s → IsFree k start → IsFree k (more ++ start)
    → IsClock clock → looked_upto cron [] ≤ clock start → clock start ≤ looked_upto cron [] + 60
    → KeepApart window k cron z clock more start → KeepUp k cron clock more start
    → ((t : ℕ) → IsAwaited k cron start (more ++ start) t → clock (more ++ start) < t)
    → clock (more ++ start) ≤ looked_upto cron [] + reach
    → HaveKeptUp window k cron s z (clock (more ++ start)) start (more ++ start)

-- ---- the Jobs

-- from the creation of a CronJob on whose policy isn't Forbid, and whose deadline isn't under a
-- minute, they are one for each due time up to the moment, in their order, and no others
-- rule: syncs-keep-up
abbrev pub EachInTime : Type 0
EachInTime = (window : ℕ) (start g : List Told) (k : Place) (cron : CronJob) (s : Sets) (z : Zone)
    (now : ℕ)
    → length g ≤ last_uid → IsLegal window g → ArePlanned g → IsNew start k cron s
    → cron.spec.policy ≢ Forbid → IsAmple cron.spec.starting_deadline_seconds
    → HaveKeptUp window k cron s z now start g
    → reverse (made_for window cron.meta.uid g) ≡ missed_times s z (looked_upto cron []) now

-- and so they are under any policy, where each Job ended before the next due time
-- rule: syncs-keep-up
abbrev pub EachEndedInTime : Type 0
EachEndedInTime = (window : ℕ) (start g : List Told) (k : Place) (cron : CronJob) (s : Sets)
    (z : Zone) (now : ℕ)
    → length g ≤ last_uid → IsLegal window g → ArePlanned g → IsNew start k cron s
    → IsAmple cron.spec.starting_deadline_seconds
    → (y : HaveKeptUp window k cron s z now start g)
    → EndInTime window k cron s z start y.syncs.moments g y.syncs.synced
    → reverse (made_for window cron.meta.uid g) ≡ missed_times s z (looked_upto cron []) now

-- what the end of a sync tells
abbrev pub told_by : Call → List Reason
told_by (Of.Finish end reasons) = reasons
told_by call = []

-- from the first history on no sync of the key told that a Job runs already
-- rule: syncs-keep-up
abbrev pub NoneForbidden : Place → List Told → List Told → Type 0
NoneForbidden k start g = (later es : List Told) (e : Told) → g ≡ later ++ e ∷ (es ++ start)
    → Holds (es ++ start) k e.caller → IsIn JobAlreadyActive (told_by e.call) → ⊥

-- and so they are under any policy, where none told that
-- rule: syncs-keep-up
abbrev pub EachAllowed : Type 0
EachAllowed = (window : ℕ) (start g : List Told) (k : Place) (cron : CronJob) (s : Sets) (z : Zone)
    (now : ℕ)
    → length g ≤ last_uid → IsLegal window g → ArePlanned g → IsNew start k cron s
    → IsAmple cron.spec.starting_deadline_seconds
    → HaveKeptUp window k cron s z now start g → NoneForbidden k start g
    → reverse (made_for window cron.meta.uid g) ≡ missed_times s z (looked_upto cron []) now
