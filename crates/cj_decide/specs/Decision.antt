-- The decision of a sync of a CronJob: Kubernetes CronJob documentation, "Writing a CronJob spec",
-- "CronJob limitations" and "Jobs history limits".
use Rattle.std.specs.Prelude.{◌≡◌, ℕ, Bool, true, false, List, [], ◌∷◌, ◌++◌, Option, None, Some, option_map, if◌then◌else◌}
use Rattle.cj_types.specs.declared.cron.CronJob.{CronJob}
use Rattle.cj_types.specs.declared.cron.CronStatus.{CronStatus}
use Rattle.cj_types.specs.declared.job.Job.{Job}
use Rattle.cj_types.specs.declared.policy.Reason.{Reason}
use Rattle.cj_types.specs.declared.policy.Reason.TheVariants.{TooManyMissedTimes}
use Rattle.cj_types.specs.Uids.{uid_text}
use Rattle.cj_zone.specs.declared.zone.Zone.{Zone}
use Rattle.cj_status.specs.declared.order.Sorting.TheVariants.{ByName}
use Rattle.cj_status.specs.declared.refs.JobRef.{JobRef}
use Rattle.cj_status.specs.Mine.{present}
use Rattle.cj_status.specs.Picked.{listed, running}
use Rattle.cj_status.specs.Refs.{has_any}
use Rattle.cj_decide.specs.declared.start.Claim.{Claim}
use Rattle.cj_decide.specs.declared.steps.Steps.{Steps}
use Rattle.cj_decide.specs.declared.start_decision.StartDecision.{StartDecision}
use Rattle.cj_decide.specs.StartDecisions.{IsStartDecision}
use Rattle.cj_decide.specs.Start.{claim_of, draft_of}
use Rattle.cj_decide.specs.Finally.{standing, final, IsStatusStep, cleanup_of}

abbrev pub many_of : Bool → List Reason
many_of true = TooManyMissedTimes ∷ []
many_of false = []

abbrev pub reason_of : Option Reason → List Reason
reason_of None = []
reason_of (Some reason) = reason ∷ []

-- the reasons of a sync; TooManyMissedTimes comes first
-- rule: too-many-missed
abbrev pub reasons_of : StartDecision → List Reason
reasons_of v = many_of v.is_late ++ reason_of v.reason

-- the unfinished Jobs of the CronJob that the live read found, the oldest first
-- rule: live-read-decides
abbrev pub running_of : CronJob → List (Option Job) → List JobRef
running_of cron found = running (uid_text cron.meta.uid) (present found)

-- the claim of a start decision
abbrev pub claim_by : CronJob → StartDecision → Option Claim
claim_by cron v = option_map (claim_of cron) v.time

-- the steps of a start decision, with the given status at the end
-- rule: step-order
abbrev pub steps_of : CronJob → List Job → List (Option Job) → StartDecision → Option CronStatus
    → Steps
steps_of cron jobs found v status = record {
  claim = claim_by cron v;
  drop_first = if v.replaces then running_of cron found else [];
  make = option_map (draft_of cron) v.time;
  cleanup = cleanup_of cron jobs;
  status = status;
  reasons = reasons_of v;
  next = v.next;
}

-- the steps without a CronJob: all listed Jobs are deleted, by name
abbrev pub clearing : List Job → Steps
clearing jobs = record {
  claim = None;
  drop_first = [];
  make = None;
  cleanup = listed ByName jobs;
  status = None;
  reasons = [];
  next = None;
}

-- the steps are those of the start decision; the status is written only if it differs from the
-- status before it
pub record AreSteps (cron : CronJob) (jobs : List Job) (found : List (Option Job))
    (v : StartDecision) (steps : Steps) : Type 0 where
  pub status : Option CronStatus
  pub changes : IsStatusStep (standing cron (claim_by cron v))
      (final cron jobs found v (claim_by cron v)) status
  pub are : steps ≡ steps_of cron jobs found v status

-- the steps are those of the one start decision
-- rule: decision-cases
pub record IsDecision (cron : CronJob) (jobs : List Job) (found : List (Option Job)) (now : ℕ)
    (z : Option Zone) (steps : Steps) : Type 0 where
  pub start : StartDecision
  pub decided : IsStartDecision cron z (has_any (running_of cron found)) now start
  pub meant : AreSteps cron jobs found start steps

-- the plan of these inputs: a CronJob or none, the listed Jobs, the answers of a live read for its
-- active names, the moment, and the zone, if it is known
-- rule: decision-cases
abbrev pub IsPlan : Option CronJob → List Job → List (Option Job) → ℕ → Option Zone → Steps → Type 0
IsPlan None jobs found now z steps = steps ≡ clearing jobs
IsPlan (Some cron) jobs found now z steps = IsDecision cron jobs found now z steps

-- a plan with its inputs
pub record Planned : Type 0 where
  pub cron : Option CronJob
  pub jobs : List Job
  pub active : List (Option Job)
  pub at : ℕ
  pub zone : Option Zone
  pub steps : Steps

-- the plan's steps are the decision of its inputs
-- rule: decision-cases
abbrev pub IsDecided : Planned → Type 0
IsDecided p = IsPlan p.cron p.jobs p.active p.at p.zone p.steps

-- the plan's inputs are just this CronJob, or none, these Jobs, and this live read
abbrev pub RestsOn : Planned → Option CronJob → List Job → List (Option Job) → Type 0
RestsOn p cron jobs active = (p.cron ≡ cron) × (p.jobs ≡ jobs) × (p.active ≡ active)
