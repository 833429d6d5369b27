-- The facts about each plan by which, in a history of syncs, no time of a CronJob gets two Jobs,
-- and no Job overlaps an unfinished one where the policy forbids it (Kubernetes CronJob
-- documentation, "Concurrency policy"). Cleanup, reasons and the next time play no part.
use Rattle.std.specs.Prelude.{◌≡◌, ◌⊎◌, ℕ, suc, ◌≤◌, Bool, true, false, List, [], ◌∷◌, Option, Some, None}
use Rattle.cj_types.specs.Keys.{Place, place}
use Rattle.cj_types.specs.Uids.{uid_text}
use Rattle.cj_types.specs.Owners.{controller_of, is_cron_reference}
use Rattle.cj_types.specs.declared.owners.OwnerRef.{OwnerRef}
use Rattle.cj_types.specs.declared.policy.Policy.{Policy}
use Rattle.cj_types.specs.declared.policy.Policy.TheVariants.{Allow, Forbid, Replace}
use Rattle.cj_types.specs.declared.cron.CronJob.{CronJob}
use Rattle.cj_types.specs.declared.cron.CronStatus.{CronStatus}
use Rattle.cj_types.specs.declared.job.Job.{Job}
use Rattle.cj_types.specs.declared.job.JobDraft.{JobDraft}
use Rattle.cj_status.specs.declared.refs.JobRef.{JobRef}
use Rattle.cj_status.specs.Mine.{is_running}
use Rattle.cj_decide.specs.declared.start.Claim.{Claim}
use Rattle.cj_decide.specs.Decision.{Planned, IsDecided}

-- an unfinished Job whose controller has this uid
unfoldable pub runs : ℕ → Job → Bool
runs u job = is_running (uid_text u) job

abbrev pub is_strict : Policy → Bool
is_strict Allow = false
is_strict Forbid = true
is_strict Replace = true

-- the key has one of the names
abbrev pub IsAt : List ℕ → List (List ℕ) → Place → Type 0
IsAt namespace [] q = ⊥
IsAt namespace (n ∷ ns) q = (place namespace n ≡ q) ⊎ IsAt namespace ns q

-- the references have one with that key and uid
abbrev pub IsAmong : List JobRef → Place → ℕ → Type 0
IsAmong [] q i = ⊥
IsAmong (r ∷ rs) q i = ((r.key ≡ q) × (r.uid ≡ i)) ⊎ IsAmong rs q i

-- the live read found for the name an unfinished Job of the CronJob with that key and uid
pub record IsHere (u : ℕ) (namespace name : List ℕ) (job : Job) (q : Place) (i : ℕ) : Type 0 where
  pub named : place namespace name ≡ q
  pub key : job.key ≡ q
  pub uid : job.meta.uid ≡ i
  pub runs : runs u job ≡ true

-- the live read found such a Job for one of the names
abbrev pub IsFoundIn : ℕ → List ℕ → List (List ℕ) → List (Option Job) → Place → ℕ → Type 0
IsFoundIn u namespace [] found q i = ⊥
IsFoundIn u namespace (n ∷ ns) [] q i = ⊥
IsFoundIn u namespace (n ∷ ns) (None ∷ found) q i = IsFoundIn u namespace ns found q i
IsFoundIn u namespace (n ∷ ns) (Some job ∷ found) q i = IsHere u namespace n job q i
    ⊎ IsFoundIn u namespace ns found q i

-- the live read found such a Job for one of a CronJob's active names
abbrev pub IsFound : CronJob → List (Option Job) → Place → ℕ → Type 0
IsFound cron found q i = IsFoundIn cron.meta.uid cron.key.namespace cron.status.active found q i

-- the last time plus 1, or 0 for none: t < upto last says that t is not after the last time
abbrev pub upto : Option ℕ → ℕ
upto None = 0
upto (Some t) = suc t

-- the Job that is created: its controller is the CronJob, in whose namespace it is, and its name is
-- in the status of the claim and in the final one
pub record IsMade (p : Planned) (cron : CronJob) (claim : Claim) (d : JobDraft) : Type 0 where
  pub owner : OwnerRef
  pub controller : controller_of d.owners ≡ Some owner
  pub uid : owner.uid ≡ uid_text cron.meta.uid
  pub reference : is_cron_reference owner ≡ true
  pub name : owner.name ≡ cron.key.name
  pub namespace : d.key.namespace ≡ cron.key.namespace
  pub named : IsAt cron.key.namespace claim.status.active d.key
  pub final : (f : CronStatus) → p.steps.status ≡ Some f → IsAt cron.key.namespace f.active d.key

-- a plan that claims a time
pub record Starts (p : Planned) (cron : CronJob) (claim : Claim) : Type 0 where
  pub later : upto cron.status.last_schedule_time ≤ claim.time
  pub says : claim.status.last_schedule_time ≡ Some claim.time
  pub drops : is_strict cron.spec.policy ≡ true → (q : Place) (i : ℕ) → IsFound cron p.active q i
      → IsAmong p.steps.drop_first q i
  pub more : (q : Place) → IsAt cron.key.namespace cron.status.active q
      → IsAt cron.key.namespace claim.status.active q
  pub makes : (d : JobDraft) → p.steps.make ≡ Some d → IsMade p cron claim d
  pub final : (f : CronStatus) → p.steps.status ≡ Some f
      → upto claim.status.last_schedule_time ≤ upto f.last_schedule_time

-- a plan that claims no time
pub record Waits (p : Planned) (cron : CronJob) : Type 0 where
  pub makes : p.steps.make ≡ None
  pub drops : p.steps.drop_first ≡ []
  pub final : (f : CronStatus) → p.steps.status ≡ Some f
      → upto cron.status.last_schedule_time ≤ upto f.last_schedule_time

abbrev pub FitsWith : Planned → CronJob → Option Claim → Type 0
FitsWith p cron None = Waits p cron
FitsWith p cron (Some claim) = Starts p cron claim

-- a Job that the live read found unfinished is named in the final status, or deleted
abbrev pub Keeps : Planned → CronJob → Type 0
Keeps p cron =
    (f : CronStatus) → p.steps.status ≡ Some f → (q : Place) (i : ℕ) → IsFound cron p.active q i
    → IsAt cron.key.namespace f.active q ⊎ IsAmong p.steps.drop_first q i

-- without a CronJob no Job is created and no status is written
pub record Clears (p : Planned) : Type 0 where
  pub makes : p.steps.make ≡ None
  pub claim : p.steps.claim ≡ None
  pub final : p.steps.status ≡ None

abbrev pub FitsFor : Planned → Option CronJob → Type 0
FitsFor p None = Clears p
FitsFor p (Some cron) = FitsWith p cron p.steps.claim × Keeps p cron

abbrev pub Fits : Planned → Type 0
Fits p = FitsFor p p.cron

-- every plan fits so
abbrev pub DecidedFits : Type 0
DecidedFits = (p : Planned) → IsDecided p → Fits p
