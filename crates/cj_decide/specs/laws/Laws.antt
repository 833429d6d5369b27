-- The laws of plans.
use Rattle.std.specs.Prelude.{◌≡◌, ◌⊎◌, ℕ, ◌<◌, ◌≤◌, Bool, true, false, List, [], ◌∷◌, map, filter, Option, Some, None, unwrap_or}
use Rattle.std.specs.List.Sorted.{IsPermutation}
use Rattle.cj_types.specs.declared.cron.CronJob.{CronJob}
use Rattle.cj_types.specs.declared.cron.CronStatus.{CronStatus}
use Rattle.cj_types.specs.declared.job.Job.{Job}
use Rattle.cj_types.specs.declared.policy.Policy.{Policy}
use Rattle.cj_types.specs.declared.policy.Policy.TheVariants.{Allow, Forbid, Replace}
use Rattle.cj_types.specs.Made.{made_name}
use Rattle.cj_types.specs.Uids.{uid_text}
use Rattle.cj_schedule.specs.Matches.{Sets}
use Rattle.cj_schedule.specs.Grammar.{IsSchedule}
use Rattle.cj_zone.specs.declared.zone.Zone.{Zone}
use Rattle.cj_due.specs.Due.{IsLatestDue}
use Rattle.cj_due.specs.Window.{window_of}
use Rattle.cj_status.specs.declared.refs.JobRef.{JobRef}
use Rattle.cj_status.specs.Active.{is_found}
use Rattle.cj_status.specs.Mine.{is_running}
use Rattle.cj_status.specs.Order.{IsRising}
use Rattle.cj_status.specs.Picked.{running}
use Rattle.cj_status.specs.Refs.{ref, is_older}
use Rattle.cj_decide.specs.declared.start.Claim.{Claim}
use Rattle.cj_decide.specs.declared.steps.Steps.{Steps}
use Rattle.cj_decide.specs.Start.{claimed, draft_of}
use Rattle.cj_decide.specs.Decision.{IsPlan, running_of}

-- two plans of the same CronJob, Jobs, live read, moment and zone are equal
abbrev pub OnePlan : Type 0
OnePlan = (cron : Option CronJob) (jobs : List Job) (found : List (Option Job)) (now : ℕ)
    (z : Option Zone) (p q : Steps) →
    IsPlan cron jobs found now z p → IsPlan cron jobs found now z q → p ≡ q

-- ---- claims

-- the latest time missed
-- rule: claim-time
pub record IsClaimed (cron : CronJob) (now : ℕ) (z : Zone) (time : ℕ) : Type 0 where
  pub sets : Sets
  pub schedule : IsSchedule cron.spec.schedule sets
  pub latest : IsLatestDue sets z (window_of cron now) now time

-- the Jobs that may run where a Job is started: any under Allow, none under Forbid, and under
-- Replace only Jobs that are deleted first
abbrev pub IsAllowed : Policy → List JobRef → List JobRef → Type 0
IsAllowed Allow running dropped = dropped ≡ []
IsAllowed Forbid running dropped = (running ≡ []) × (dropped ≡ [])
IsAllowed Replace running dropped = dropped ≡ running

-- the facts about a plan that claims a time
pub record Starts (cron : CronJob) (found : List (Option Job)) (now : ℕ) (z : Option Zone)
    (p : Steps) (claim : Claim) : Type 0 where
  pub zone : Zone
  pub known : z ≡ Some zone
  pub due : IsClaimed cron now zone claim.time
  pub status : claim.status ≡ claimed cron claim.time
  pub make : p.make ≡ Some (draft_of cron claim.time)
  pub allowed : IsAllowed cron.spec.policy (running_of cron found) p.drop_first

-- rule: live-read-decides
abbrev pub ClaimsLatest : Type 0
ClaimsLatest = (cron : CronJob) (jobs : List Job) (found : List (Option Job)) (now : ℕ)
    (z : Option Zone) (p : Steps) (claim : Claim) →
    IsPlan (Some cron) jobs found now z p → p.claim ≡ Some claim → Starts cron found now z p claim

-- a claimed time is above the last time that was scheduled, or the creation, and not above the
-- moment
pub record IsInTime (cron : CronJob) (now time : ℕ) : Type 0 where
  pub above : unwrap_or cron.status.last_schedule_time cron.meta.created < time
  pub within : time ≤ now

abbrev pub ClaimsInTime : Type 0
ClaimsInTime = (cron : CronJob) (jobs : List Job) (found : List (Option Job)) (now : ℕ)
    (z : Option Zone) (p : Steps) (claim : Claim) →
    IsPlan (Some cron) jobs found now z p → p.claim ≡ Some claim → IsInTime cron now claim.time

-- where no time is claimed no Job is created, and none is deleted first
pub record Rests (p : Steps) : Type 0 where
  pub make : p.make ≡ None
  pub drops : p.drop_first ≡ []

abbrev pub NoClaim : Type 0
NoClaim = (cron : Option CronJob) (jobs : List Job) (found : List (Option Job)) (now : ℕ)
    (z : Option Zone) (p : Steps) →
    IsPlan cron jobs found now z p → p.claim ≡ None → Rests p

-- ---- what runs

-- the unfinished Jobs of a CronJob are in the order of creation time, then name
-- rule: live-read-decides
abbrev pub OldestFirst : Type 0
OldestFirst = (uid : List ℕ) (jobs : List Job) → IsRising is_older (running uid jobs)

-- the list has all unfinished Jobs of a CronJob that were found, each once
-- rule: live-read-decides
abbrev pub AllRunning : Type 0
AllRunning = (uid : List ℕ) (jobs : List Job)
    → IsPermutation (map ref (filter (is_running uid) jobs)) (running uid jobs)

-- ---- cleanup

abbrev pub IsIn : {X : Type 0} → X → List X → Type 0
IsIn x [] = ⊥
IsIn x (y ∷ ys) = (y ≡ x) ⊎ IsIn x ys

-- a listed Job that isn't an unfinished one of the CronJob
pub record IsCleaned (uid : List ℕ) (jobs : List Job) (r : JobRef) : Type 0 where
  pub job : Job
  pub listed : IsIn job jobs
  pub is : ref job ≡ r
  pub rests : is_running uid job ≡ false

-- rule: cleanup
abbrev pub CleansFinished : Type 0
CleansFinished = (cron : CronJob) (jobs : List Job) (found : List (Option Job)) (now : ℕ)
    (z : Option Zone) (p : Steps) →
    IsPlan (Some cron) jobs found now z p → (r : JobRef) → IsIn r p.cleanup
    → IsCleaned (uid_text cron.meta.uid) jobs r

-- ---- the final status

-- the name is one for which an unfinished Job was found
abbrev pub IsFoundOf : List ℕ → List (List ℕ) → List (Option Job) → List ℕ → Type 0
IsFoundOf uid [] found name = ⊥
IsFoundOf uid (n ∷ names) [] name = ⊥
IsFoundOf uid (n ∷ names) (one ∷ found) name = ((n ≡ name) × (is_found uid n one ≡ true))
    ⊎ IsFoundOf uid names found name

-- the name of the Job that the plan creates
abbrev pub IsMadeName : CronJob → Option Claim → List ℕ → Type 0
IsMadeName cron None name = ⊥
IsMadeName cron (Some claim) name = made_name cron.key.name claim.time ≡ name

abbrev pub takes_over : Policy → Bool
takes_over Allow = false
takes_over Forbid = false
takes_over Replace = true

-- a claim whose Job replaces those that run
abbrev pub is_replacing : Policy → Option Claim → Bool
is_replacing policy None = false
is_replacing policy (Some claim) = takes_over policy

-- a name whose Job was found unfinished and isn't deleted, or is created
abbrev pub IsNamed : CronJob → List (Option Job) → Steps → List ℕ → Type 0
IsNamed cron found p name =
    ((is_replacing cron.spec.policy p.claim ≡ false)
    × IsFoundOf (uid_text cron.meta.uid) cron.status.active found name)
    ⊎ IsMadeName cron p.claim name

-- the final status has just these names
pub record Names (cron : CronJob) (found : List (Option Job)) (p : Steps) (f : CronStatus)
    (name : List ℕ) : Type 0 where
  pub only : IsIn name f.active → IsNamed cron found p name
  pub all : IsNamed cron found p name → IsIn name f.active

-- rule: final-status
abbrev pub NamesAtEnd : Type 0
NamesAtEnd = (cron : CronJob) (jobs : List Job) (found : List (Option Job)) (now : ℕ)
    (z : Option Zone) (p : Steps) (f : CronStatus) →
    IsPlan (Some cron) jobs found now z p → p.status ≡ Some f → (name : List ℕ)
    → Names cron found p f name
