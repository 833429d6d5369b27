-- A CronJob that is left to its syncs, by what each entry of a history does: whoever holds its key
-- goes on to the end of its plan, and nobody else writes the CronJob, or a Job of a name that is
-- made for it. Then each of its syncs is a whole one, from Take to Finish (Every).
use Rattle.std.specs.Prelude.{◌≡◌, ◌≢◌, ℕ, ◌≤◌, true, false, List, [], ◌∷◌, ◌++◌, length, Option, Some, None, IfSome}
use Rattle.std.specs.FinMap as map
use Rattle.cj_types.specs.Keys.{Place}
use Rattle.cj_types.specs.Made.{made_place}
use Rattle.cj_types.specs.Uids.{last_uid}
use Rattle.cj_types.specs.declared.cron.CronJob.{CronJob}
use Rattle.cj_schedule.specs.Matches.{Sets}
use Rattle.cj_zone.specs.declared.zone.Zone.{Zone}
use Rattle.cj_store.specs.Content.{Content}
use Rattle.cj_decide.specs.Decision.{Planned}
use Rattle.cj_calls.specs.Rows.{Told}
use Rattle.cj_calls.specs.declared.caller.Caller.{Caller}
use Rattle.cj_calls.specs.declared.caller.Role.TheVariants.{Worker}
use Rattle.cj_calls.specs.declared.call.Call.{Call}
use Rattle.cj_calls.specs.declared.call.Call.TheVariants as Of
use Rattle.cj_calls.specs.declared.end.End.TheVariants.{Again, Well}
use Rattle.cj_state.specs.declared.phases.sync.Phase.{Phase}
use Rattle.cj_state.specs.declared.phases.sync.Phase.TheVariants.{Works}
use Rattle.cj_state.specs.Legal.{IsLegal, ArePlanned, state_of}
use Rattle.cj_world_laws.specs.legal.InFlightSyncs.{sync}
use Rattle.cj_world_laws.specs.once.Once.{is_ok}
use Rattle.cj_history.specs.store.Writes.{entry_written, writes}
use Rattle.cj_history.specs.progress.Undisturbed.{object_of, is_of}
use Rattle.cj_history.specs.progress.Every.{Moment, name_of, Synced, looked_upto, last_moment, GoOn, IsBegun}

-- ---- who holds the key

-- the caller is a worker that holds the key, with its sync in that phase
pub record Holds (h : List Told) (k : Place) (c : Caller) : Type 0 where
  pub role : c.role ≡ Worker
  pub phase : Phase
  pub sync : sync h c.number ≡ Some (record { key = k; phase = phase })

-- nobody does
abbrev pub IsFree : Place → List Told → Type 0
IsFree k h = (c : Caller) → Holds h k c → ⊥

-- ---- what it calls

-- where its call ends the sync, this isn't to be tried again, and the end tells the plan's reasons
-- rule: syncs-go-on
abbrev pub EndsWell : Call → Phase → Type 0
EndsWell (Of.Finish (Again now) reasons) phase = ⊥
EndsWell (Of.Finish Well reasons) (Works work) = reasons ≡ work.plan.steps.reasons
EndsWell call phase = Unit {0}

-- the plan is of that moment; it is in that zone, if it is for a CronJob with the spec of this one;
-- and the name of its Job isn't taken
-- rule: syncs-go-on
pub record IsOnTime (cron : CronJob) (z : Zone) (now : ℕ) (s : Content) (p : Planned) : Type 0 where
  pub at : p.at ≡ now
  pub zone : (seen : CronJob) → p.cron ≡ Some seen → seen.spec ≡ cron.spec → p.zone ≡ Some z
  pub free : IfSome (name_of p) (λ q. map.get s.jobs q ≡ None)

-- so is each plan that is claimed
-- rule: syncs-go-on
abbrev pub ClaimsOnTime : CronJob → Zone → ℕ → Content → Call → Type 0
ClaimsOnTime cron z now s (Of.Claim p) = IsOnTime cron z now s p
ClaimsOnTime cron z now s call = Unit {0}

-- ---- what others write

-- the entry after the history writes neither the CronJob at the key nor the Job at the other, if
-- one is named
abbrev pub Spares : List Told → Told → Place → Option Place → Type 0
Spares h e k q = IfSome (entry_written (writes h) (sync h e.caller.number) e.call e.answer)
    (λ x. is_of k q (object_of x) ≡ false)

-- ---- each entry

-- the entry after the history keeps to that: no call of who holds the key is refused, each end and
-- each claim of it is such, others don't write the CronJob, and, where somebody holds the key, no
-- Job of a name that is made for it
-- rule: syncs-go-on
pub record KeepsApart (window : ℕ) (k : Place) (cron : CronJob) (z : Zone) (now : ℕ) (h : List Told)
    (e : Told) : Type 0 where
  pub accepted : Holds h k e.caller → is_ok e.answer ≡ true
  pub ends : (y : Holds h k e.caller) → EndsWell e.call y.phase
  pub claims : Holds h k e.caller → ClaimsOnTime cron z now (state_of window h).store e.call
  pub alone : (Holds h k e.caller → ⊥) → Spares h e k None
  pub aside : (c : Caller) → Holds h k c → e.caller ≢ c → (t : ℕ)
      → Spares h e k (Some (made_place k t))

-- so does each of these entries after the history, by a clock that tells a moment for each history
-- rule: syncs-go-on
abbrev pub KeepApart : ℕ → Place → CronJob → Zone → (List Told → ℕ) → List Told → List Told → Type 0
KeepApart window k cron z clock [] start = Unit {0}
KeepApart window k cron z clock (e ∷ es) start =
    KeepsApart window k cron z (clock (es ++ start)) (es ++ start) e
    × KeepApart window k cron z clock es start

-- the clock doesn't go back
abbrev pub IsClock : (List Told → ℕ) → Type 0
IsClock clock = (e : Told) (h : List Told) → clock h ≤ clock (e ∷ h)

-- ---- what comes of it

-- there were such syncs, at moments that go on, up to the clock's
-- rule: syncs-go-on
pub record HaveSynced (window : ℕ) (k : Place) (cron : CronJob) (z : Zone) (now : ℕ)
    (start g : List Told) : Type 0 where
  pub moments : List Moment
  pub on : GoOn cron moments
  pub upto : last_moment cron moments ≤ now
  pub synced : Synced window k z start moments g

-- from a history on where the CronJob stands and nobody holds its key, entries that keep to that
-- are syncs of it and what others call, if nobody holds its key in the end
-- rule: syncs-go-on
abbrev pub SyncsGoOn : Type 0
SyncsGoOn = (window : ℕ) (start more : List Told) (k : Place) (cron : CronJob) (s : Sets) (z : Zone)
    (clock : List Told → ℕ)
    → length (more ++ start) ≤ last_uid → IsLegal window (more ++ start)
    → ArePlanned (more ++ start)
    → IsBegun window start k cron s → IsFree k start → IsFree k (more ++ start)
    → IsClock clock → looked_upto cron [] ≤ clock start
    → KeepApart window k cron z clock more start
    → HaveSynced window k cron z (clock (more ++ start)) start (more ++ start)
