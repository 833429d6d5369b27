-- What a run reports.
use Rattle.std.specs.Prelude.{◌≡◌, ℕ, List}
use Rattle.cj_hub.specs.Receipts.{PassView}
use Rattle.cj_worker.specs.declared.workers.WorkerEnd.{WorkerEnd}
use Rattle.cj_script.specs.declared.simulation.scenario.Simulation.{Simulation}
use Rattle.cj_world_laws.specs.Promise.{KeepsPromise}
use Rattle.cj_world.specs.Worlds.{WorldLog}
use Rattle.cj_io.specs.declared.failure.Failure.{Failure}
use Rattle.cj_io.specs.declared.failure.Failure.TheVariants.{Device, HistoryFull, InconsistentRun, Memory, UnexpectedRefusal}
use Rattle.cj_report.specs.Reports.{report_of}
use Rattle.cj_run.specs.Participants.{AreAll, AreComplete, passes_of}
use Rattle.cj_run.specs.Actions.{HasDone}
use Rattle.cj_run.specs.Turns.{AllInstants, EndsFirst, KeepsTime, turn}
use Rattle.cj_run.specs.Upkeep.{ComesToRest, KeepsUp}
use Rattle.cj_run.specs.Zones.{AreZoned}
use Rattle.cj_run.specs.declared.participants.Participants.{Participants}

abbrev pub pass_at : WorkerEnd → PassView
pass_at end = end.pass

-- those who took part in a run: none is missing, and they did at all instants what the scenario
-- says
pub record HasRun (c : Simulation) (workers : ℕ) (participants : Participants) : Type 0 where
  pub complete : AreComplete workers participants
  pub instants : ℕ
  pub every : AllInstants c.span instants
  pub done : HasDone c instants participants

-- the text is the report of this history, which keeps what is promised of every history, which has
-- the entries of these participants and no others, which keeps time, in which times are claimed in
-- the scenario's zones, and which comes to rest at the end of each instant
-- rule: run-report
pub record IsReport (c : Simulation) (participants : Participants) (w : WorldLog) (text : List ℕ)
    : Type 0 where
  pub promise : KeepsPromise w.limits.window w.history
  pub all : AreAll (passes_of participants) w.history
  pub time : KeepsTime c participants.user.number w.history
  pub zones : AreZoned c.zones w.history
  pub rests : ComesToRest w.limits.window c.span w.history
  pub printed : text ≡ report_of w.limits.window w.history

-- a run of the scenario with that many workers: the text is the report of this history, which keeps
-- what is promised of every history, and which has the entries of an informer, two runners, the
-- workers and a user, and no others. The workers made whole syncs, one after the other, until each
-- found the queue shut, and claimed times in the scenario's zones. All instants of the clock begin
-- and are over, one after the other, and each call is at its time: at each instant Jobs end before
-- the user calls, and where it is over all is done that was due. The user called for just what the
-- scenario says: for each CronJob's creation, and then for each edit, in the order of their
-- instants; at each instant the runners ended the Jobs that were due and the informer followed, and
-- the Jobs that it was shown are noted
-- rules: run-clock, run-edits, run-jobs, run-zones, run-keeps-up, run-report
pub record IsRun (c : Simulation) (workers : ℕ) (w : WorldLog) (text : List ℕ) : Type 0 where
  pub participants : Participants
  pub complete : AreComplete workers participants
  pub promise : KeepsPromise w.limits.window w.history
  pub all : AreAll (passes_of participants) w.history
  pub time : KeepsTime c participants.user.number w.history
  pub ends_first : EndsFirst c.span w.history
  pub zones : AreZoned c.zones w.history
  pub keeps_up : KeepsUp w.limits.window c.span w.history
  pub done : HasDone c (turn c.span w.history) participants
  pub printed : text ≡ report_of w.limits.window w.history

-- why a run has no report: a call found the history full, memory was wanting, or the program itself
-- is at fault; never a failed read or write
-- rule: run-report
abbrev pub IsRunFailure : Failure → Type 0
IsRunFailure HistoryFull = Unit {0}
IsRunFailure Memory = Unit {0}
IsRunFailure UnexpectedRefusal = Unit {0}
IsRunFailure InconsistentRun = Unit {0}
IsRunFailure Device = ⊥
