-- That a run keeps up with a CronJob to the end: its syncs are whole ones that nobody disturbs, one
-- after the other, so that the Jobs that are made for it are known (cj_history, Every).
use Rattle.std.specs.Prelude.{◌≡◌, ◌≢◌, ℕ, ◌+◌, ◌-◌, ◌≤◌, Bool, true, false, if◌then◌else◌, List, [], ◌∷◌, ◌++◌, All, drop, length, Some, None, IfSome}
use mathlib.Core.List.{reverse}
use Rattle.std.specs.FinMap as map
use Rattle.cj_types.specs.Keys.{Place}
use Rattle.cj_types.specs.Made.{made_place}
use Rattle.cj_types.specs.Uids.{last_uid}
use Rattle.cj_types.specs.declared.cron.CronJob.{CronJob}
use Rattle.cj_types.specs.declared.policy.Policy.TheVariants.{Forbid}
use Rattle.cj_schedule.specs.Matches.{Sets}
use Rattle.cj_zone.specs.declared.zone.Zone.{Zone}
use Rattle.cj_due.specs.Due.{reach, missed_times}
use Rattle.cj_store.specs.Content.{Content}
use Rattle.cj_calls.specs.Rows.{Told}
use Rattle.cj_calls.specs.declared.call.Call.{Call}
use Rattle.cj_calls.specs.declared.call.Call.TheVariants as Of
use Rattle.cj_calls.specs.declared.caller.Role.{Role}
use Rattle.cj_calls.specs.declared.caller.Role.TheVariants.{User}
use Rattle.cj_state.specs.Legal.{state_of}
use Rattle.cj_world_laws.specs.once.Once.{is_ok}
use Rattle.cj_world.specs.Worlds.{WorldLog}
use Rattle.cj_worker.specs.Zoned.{zone_for}
use Rattle.cj_history.specs.progress.Every.{name_of, made_for, AreLatest, IsNew, IsAmple, EndInTime}
use Rattle.cj_history.specs.progress.Apart.{Holds, EndsWell, Spares, HaveSynced}
use Rattle.cj_history.specs.progress.Prompt.{HaveKeptUp, NoneForbidden}
use Rattle.cj_script.specs.simulation.Spans.{SpanView, instant}
use Rattle.cj_script.specs.declared.simulation.scenario.Simulation.{Simulation}
use Rattle.cj_run.specs.Runs.{IsRun}
use Rattle.cj_run.specs.Simulations.{AreTimed, operation_writes, operations_below}
use Rattle.cj_run.specs.Turns.{turn}

-- the moment of the last instant that began, if one did
abbrev pub moment : SpanView → List Told → ℕ
moment s h = instant s (turn s h - 1)

-- and that of the instant that begins next: where the user calls, between two instants, the one at
-- which it does
abbrev pub next_moment : SpanView → List Told → ℕ
next_moment s h = instant s (turn s h)

-- a plan that is claimed makes a Job whose name isn't taken, or none
-- rule: run-syncs
abbrev pub HasFreeName : Content → Call → Type 0
HasFreeName s (Of.Claim plan) = IfSome (name_of plan) (λ q. map.get s.jobs q ≡ None)
HasFreeName s call = Unit {0}

-- the entry after the history doesn't trouble the CronJob at the key: no call of a worker that
-- holds the key is refused, its sync isn't to be tried again, and tells the plan's reasons; its
-- Job's name isn't taken; and the sync of another deletes no Job of a name that is made for it
-- rule: run-syncs
pub record IsUntroubled (window : ℕ) (k : Place) (h : List Told) (e : Told) : Type 0 where
  pub accepted : Holds h k e.caller → is_ok e.answer ≡ true
  pub ends : (y : Holds h k e.caller) → EndsWell e.call y.phase
  pub free : Holds h k e.caller → HasFreeName (state_of window h).store e.call
  pub drops : e.call ≡ Of.DropNext → (Holds h k e.caller → ⊥) → (t : ℕ)
      → Spares h e k (Some (made_place k t))

-- nor does each of these entries after the history
-- rule: run-syncs
abbrev pub AreUntroubled : ℕ → Place → List Told → List Told → Type 0
AreUntroubled window k [] start = Unit {0}
AreUntroubled window k (e ∷ es) start = IsUntroubled window k (es ++ start) e
    × AreUntroubled window k es start

-- ---- what the user still does

-- the role is a user's
abbrev pub is_user : Role → Bool
is_user User = true
is_user role = false

-- how many calls of users a history has
-- rule: run-syncs
abbrev pub user_calls : List Told → ℕ
user_calls [] = 0
user_calls (e ∷ h) = if is_user e.caller.role then user_calls h + 1 else user_calls h

-- nothing that the user of a run does after a part of its history, by the scenario, writes the
-- CronJob at the key
-- rules: run-edits, run-syncs
abbrev pub LeavesAlone : Simulation → List Told → Place → List Told → Type 0
LeavesAlone c g k start = All (λ o. operation_writes k o ≡ false)
    (drop (user_calls start) (operations_below c (turn c.span g)))

-- ---- the syncs

-- from a history to another there were whole syncs of the CronJob, up to the moment, and the Jobs
-- that were made for it are one for the greatest due time of each interval between those moments at
-- which its policy let one start, and no others
-- rule: run-syncs
pub record AreSyncs (window : ℕ) (k : Place) (cron : CronJob) (s : Sets) (z : Zone) (now : ℕ)
    (start g : List Told) : Type 0 where
  pub are : HaveSynced window k cron z now start g
  pub made : AreLatest s z cron are.moments (made_for window cron.meta.uid g)

-- in a run of a scenario whose edits create at their own moments, a CronJob is created at the
-- moment of the instant that begins next: of the first one, where it is there from the start, and
-- of an edit's own, where an edit creates it
-- rule: run-edits
abbrev pub RunCreates : Type 0
RunCreates = (c : Simulation) (workers : ℕ) (w : WorldLog) (text : List ℕ) (start more : List Told)
    (k : Place) (cron : CronJob) (s : Sets)
    → IsRun c workers w text → AreTimed c → w.history ≡ more ++ start → IsNew start k cron s
    → cron.meta.created ≡ next_moment c.span start

-- and there were, from the creation of a CronJob on to the last instant, such syncs of it: if its
-- zone is the one of the scenario's table, nothing that the scenario says for later writes it, and
-- no entry troubles it; as long as there are uids
-- rule: run-syncs
abbrev pub RunSyncs : Type 0
RunSyncs = (c : Simulation) (workers : ℕ) (w : WorldLog) (text : List ℕ) (start more : List Told)
    (k : Place) (cron : CronJob) (s : Sets) (z : Zone)
    → IsRun c workers w text → AreTimed c → w.history ≡ more ++ start
    → length w.history ≤ last_uid → IsNew start k cron s
    → zone_for c.zones (Some cron) ≡ Some z → LeavesAlone c w.history k start
    → AreUntroubled w.limits.window k more start
    → AreSyncs w.limits.window k cron s z (moment c.span w.history) start w.history

-- ---- each due time

-- in a run whose instants are at most a minute apart the CronJob is created, at the start or by an
-- edit, at most 3,000 days before the last instant; its zone is the one of the scenario's table,
-- nothing that the scenario says for later writes it, and no entry troubles it
-- rule: run-due-times
pub record RunsUntroubled (c : Simulation) (workers : ℕ) (w : WorldLog) (text : List ℕ)
    (start more : List Told) (k : Place) (cron : CronJob) (s : Sets) (z : Zone) : Type 0 where
  pub run : IsRun c workers w text
  pub timed : AreTimed c
  pub is : w.history ≡ more ++ start
  pub short : length w.history ≤ last_uid
  pub new : IsNew start k cron s
  pub zone : zone_for c.zones (Some cron) ≡ Some z
  pub left : LeavesAlone c w.history k start
  pub calm : AreUntroubled w.limits.window k more start
  pub minute : c.span.step ≤ 60
  pub within : moment c.span w.history ≤ cron.meta.created + reach

-- then its syncs keep up with the clock
-- rule: run-due-times
abbrev pub RunKeepsUp : Type 0
RunKeepsUp = (c : Simulation) (workers : ℕ) (w : WorldLog) (text : List ℕ) (start more : List Told)
    (k : Place) (cron : CronJob) (s : Sets) (z : Zone)
    → RunsUntroubled c workers w text start more k cron s z
    → HaveKeptUp w.limits.window k cron s z (moment c.span w.history) start w.history

-- and the Jobs that are made for it are one for each due time from its creation up to the last
-- instant, in their order, and no others: if its policy isn't Forbid, and its deadline not under a
-- minute
-- rule: run-due-times
abbrev pub RunMakesEach : Type 0
RunMakesEach = (c : Simulation) (workers : ℕ) (w : WorldLog) (text : List ℕ)
    (start more : List Told) (k : Place) (cron : CronJob) (s : Sets) (z : Zone)
    → RunsUntroubled c workers w text start more k cron s z
    → cron.spec.policy ≢ Forbid → IsAmple cron.spec.starting_deadline_seconds
    → reverse (made_for w.limits.window cron.meta.uid w.history)
    ≡ missed_times s z cron.meta.created (moment c.span w.history)

-- and under any policy, if no sync of it told that a Job runs already
-- rule: run-due-times
abbrev pub RunMakesEachAllowed : Type 0
RunMakesEachAllowed = (c : Simulation) (workers : ℕ) (w : WorldLog) (text : List ℕ)
    (start more : List Told) (k : Place) (cron : CronJob) (s : Sets) (z : Zone)
    → RunsUntroubled c workers w text start more k cron s z
    → IsAmple cron.spec.starting_deadline_seconds → NoneForbidden k start w.history
    → reverse (made_for w.limits.window cron.meta.uid w.history)
    ≡ missed_times s z cron.meta.created (moment c.span w.history)

-- and if each Job ended before the next due time
-- rule: run-due-times
abbrev pub RunMakesEachEnded : Type 0
RunMakesEachEnded = (c : Simulation) (workers : ℕ) (w : WorldLog) (text : List ℕ)
    (start more : List Told) (k : Place) (cron : CronJob) (s : Sets) (z : Zone)
    → RunsUntroubled c workers w text start more k cron s z
    → IsAmple cron.spec.starting_deadline_seconds
    → (y : HaveKeptUp w.limits.window k cron s z (moment c.span w.history) start w.history)
    → EndInTime w.limits.window k cron s z start y.syncs.moments w.history y.syncs.synced
    → reverse (made_for w.limits.window cron.meta.uid w.history)
    ≡ missed_times s z cron.meta.created (moment c.span w.history)
