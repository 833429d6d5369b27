-- What is done at each instant of a run, but for the user's edits: the runners end the Jobs that
-- are due, the informer follows what is written, and the Jobs that it is shown are noted.
use Rattle.std.specs.Prelude.{◌≡◌, ◌*◌, ℕ, zero, suc, not, filter, List, ◌++◌}
use Rattle.cj_hub.specs.Receipts.{PassView}
use Rattle.cj_hub.specs.declared.receipt.Receipt.{Receipt}
use Rattle.cj_runner.specs.Dues.{is_due}
use Rattle.cj_runner.specs.Ends.{AreEnded}
use Rattle.cj_script.specs.simulation.Runs.{RunTable}
use Rattle.cj_script.specs.simulation.Spans.{instant}
use Rattle.cj_script.specs.declared.simulation.scenario.Simulation.{Simulation}
use Rattle.cj_run.specs.Follows.{Follows}
use Rattle.cj_run.specs.Made.{Notes, noted_news, notes}
use Rattle.cj_run.specs.declared.rest.Follower.{Follower}

-- the runners' passes, and what was noted of the Jobs that were made
pub record Watch : Type 0 where
  pub passes : List PassView
  pub notes : Notes

abbrev pub watch : List PassView → Notes → Watch
watch passes notes = record { passes = passes; notes = notes }

-- ---- the ends

-- the Jobs that run, without those that are due
abbrev pub without_due : ℕ → Notes → Notes
without_due at n = notes n.last n.counts (filter (λ r. not (is_due at r)) n.running)

-- each Job that is due is ended, no other one is, and those are forgotten
-- rule: run-jobs
pub record EndsDue (at : ℕ) (a b : Watch) : Type 0 where
  pub receipts : List Receipt
  pub ends : AreEnded at a.notes.running a.passes b.passes receipts
  pub noted : b.notes ≡ without_due at a.notes

-- ---- the Jobs that were made

-- the Jobs are noted that the receipts name, and nobody calls. Each Job that was made is named by
-- an event, or by a listing where events have expired; a listing doesn't have one that is gone by
-- then, but no Job is made and goes within one instant, since a sync drops what has ended, or was
-- made at an earlier one
-- rule: run-jobs
pub record NotesMade (runs : RunTable) (at : ℕ) (news : List Receipt) (a b : Watch) : Type 0 where
  pub passes : b.passes ≡ a.passes
  pub noted : b.notes ≡ noted_news runs at news a.notes

-- ---- an instant

-- the informer follows, and what it was shown then is noted: its receipts are those that it had
-- before, and the news
-- rules: run-clock, run-jobs
pub record FollowsOn (runs : RunTable) (at : ℕ) (f g : Follower) (a b : Watch) : Type 0 where
  pub followed : Follows (at * 1000) f g
  pub news : List Receipt
  pub kept : g.pass ≡ record f.pass { receipts = f.pass.receipts ++ news }
  pub notes : NotesMade runs at news a b

-- the Jobs that are due are ended, and then the informer follows
-- rules: run-clock, run-jobs
pub record GoesRound (runs : RunTable) (at : ℕ) (f g : Follower) (a b : Watch) : Type 0 where
  pub between : Watch
  pub ends : EndsDue at a between
  pub follows : FollowsOn runs at f g between b

-- the round at each of the first `n` instants, one after the other
-- rules: run-clock, run-jobs
abbrev pub GoesRounds : Simulation → ℕ → Follower → Follower → Watch → Watch → Type 0
GoesRounds c zero f g a b = (g ≡ f) × (b ≡ a)
GoesRounds c (suc n) f g a b = (h : Follower) × (m : Watch) × GoesRounds c n f h a m
    × GoesRound c.runs (instant c.span n) h g m b
