-- What is wrong in a cluster: Jobs that a correct controller would not have made, and due times for
-- which it would have made one (Kubernetes CronJob documentation, "Concurrency policy" and "CronJob
-- limitations").
use Rattle.std.specs.Prelude.{◌≡◌, ◌⊎◌, ℕ, ◌||◌, Bool, true, false, List, [], ◌∷◌, Option, Some, None, All, Contains, is_some, unwrap_or}
use Rattle.std.specs.List.{list_any}
use Rattle.std.specs.List.Sorted.{IsStrictlySortedBy}
use Rattle.std.specs.FinMap as map
use Rattle.cj_types.specs.Objects.{cron_of}
use Rattle.cj_types.specs.declared.job.Job.{Job}
use Rattle.cj_zone.specs.declared.zone.Zone.{Zone}
use Rattle.cj_cluster.specs.declared.cron.ClusterCron.{ClusterCron}
use Rattle.cj_cluster.specs.Content.{Content, is_of}
use Rattle.cj_cluster.specs.declared.kubectl.notes.ItemNote.{ItemNote}
use Rattle.cj_cluster.specs.kubectl.Named.{is_of_refused}
use Rattle.cj_audit.specs.declared.kind.Exclusive.{Exclusive}
use Rattle.cj_audit.specs.declared.kind.FindingKind.TheVariants.{Stray, Stuck}
use Rattle.cj_audit.specs.declared.finding.Finding.{Finding}
use Rattle.cj_audit.specs.declared.pairing.Pairing.{Pairing}
use Rattle.cj_audit.specs.declared.pairing.Pairing.TheVariants.{SameTime, SideBySide}
use Rattle.cj_audit.specs.declared.run.Run.{Run}
use Rattle.cj_audit.specs.Kinds.{exclusive_of}
use Rattle.cj_audit.specs.Manual.{is_manual}
use Rattle.cj_audit.specs.Order.{finding_cmp}
use Rattle.cj_audit.specs.Runs.{IsRunOf}
use Rattle.cj_audit.specs.Pairs.{IsPairNote}
use Rattle.cj_audit.specs.Times.{IsUndueRun, IsEarlyRun}
use Rattle.cj_audit.specs.Missing.{IsMissingOf}

-- two Jobs of the CronJob are such a pair
pub record IsPairOf (p : Pairing) (content : Content) (c : ClusterCron) (f : Finding) : Type 0 where
  pub first : Run
  pub second : Run
  pub first_of : IsRunOf content c first
  pub second_of : IsRunOf content c second
  pub note : IsPairNote p c first second f

-- two Jobs of the CronJob have one scheduled time
-- rule: audit-twice
abbrev pub IsTwiceOf : Content → ClusterCron → Finding → Type 0
IsTwiceOf content c f = IsPairOf SameTime content c f

abbrev pub IsBesideUnder : Option Exclusive → Content → ClusterCron → Finding → Type 0
IsBesideUnder None content c f = ⊥
IsBesideUnder (Some e) content c f = IsPairOf (SideBySide e) content c f

-- the CronJob's policy is Forbid or Replace, and two Jobs of it ran at once
-- rule: audit-beside
abbrev pub IsBesideOf : Content → ClusterCron → Finding → Type 0
IsBesideOf content c f = IsBesideUnder (exclusive_of c.cron.spec.policy) content c f

-- a Job of the CronJob has a scheduled time at which its schedule isn't due
-- rule: audit-undue
pub record IsUndueOf (zones : List Zone) (content : Content) (c : ClusterCron) (f : Finding)
    : Type 0 where
  pub run : Run
  pub run_of : IsRunOf content c run
  pub note : IsUndueRun zones c run f

-- a Job of the CronJob was created before its scheduled time
-- rule: audit-early
pub record IsEarlyOf (content : Content) (c : ClusterCron) (f : Finding) : Type 0 where
  pub run : Run
  pub run_of : IsRunOf content c run
  pub note : IsEarlyRun c run f

-- what is wrong with one Job of the CronJob, or with a time that has none
abbrev pub IsAloneOf : List Zone → Content → ClusterCron → Finding → Type 0
IsAloneOf zones content c f =
    IsUndueOf zones content c f ⊎ (IsEarlyOf content c f ⊎ IsMissingOf zones content c f)

abbrev pub IsFindingOf : List Zone → Content → ClusterCron → Finding → Type 0
IsFindingOf zones content c f =
    IsTwiceOf content c f ⊎ (IsBesideOf content c f ⊎ IsAloneOf zones content c f)

-- a CronJob of the cluster controls this Job
abbrev pub has_cron : Content → Job → Bool
has_cron content job = list_any (λ c. is_of c job) (map.values content.crons)

abbrev pub has_any : {A : Type 0} → List A → Bool
has_any [] = false
has_any (x ∷ xs) = true

-- the list has a CronJob, be it one that can't be used; a list of Jobs alone says of none whether
-- it is there
-- rule: audit-stray
abbrev pub tells_crons : Content → List ItemNote → Bool
tells_crons content notes =
    has_any (map.values content.crons) || list_any (λ note. is_some note.cron) notes

-- the finding on a Job whose controller reference names a CronJob
abbrev pub stray_finding : Job → List ℕ → Finding
stray_finding job name = record {
  namespace = job.key.namespace;
  cron = name;
  time = job.meta.created;
  first = job.key.name;
  second = None;
  kind = Stray;
}

-- the controller reference of the Job names a CronJob of batch/v1, and no CronJob of the cluster
-- controls the Job: none is at that key, or one with another uid; nor is it that of an item that
-- can't be used, and nobody made it by hand; where the list has CronJobs at all
-- rule: audit-stray
pub record IsStrayJob (content : Content) (notes : List ItemNote) (job : Job) (f : Finding)
    : Type 0 where
  pub name : List ℕ
  pub named : cron_of job ≡ Some name
  pub made : is_manual content.times job ≡ false
  pub unlisted : is_of_refused notes job ≡ false
  pub free : has_cron content job ≡ false
  pub told : tells_crons content notes ≡ true
  pub is : f ≡ stray_finding job name

-- ---- a CronJob that is stuck

-- its last scheduled time, and without one its creation
abbrev pub since : ClusterCron → ℕ
since c = unwrap_or c.cron.status.last_schedule_time c.cron.meta.created

-- the finding on a CronJob, which names no Job
abbrev pub stuck_finding : ClusterCron → Finding
stuck_finding c = record {
  namespace = c.cron.key.namespace;
  cron = c.cron.key.name;
  time = since c;
  first = [];
  second = None;
  kind = Stuck;
}

-- a reference in its `status.active` names no Job, so that it starts nothing
-- rule: audit-stuck
pub record IsStuckCron (c : ClusterCron) (f : Finding) : Type 0 where
  pub stuck : c.marks.is_stuck ≡ true
  pub is : f ≡ stuck_finding c

-- ---- all of them

-- what is wrong with the Jobs of a CronJob of the cluster
pub record IsFindingIn (zones : List Zone) (content : Content) (f : Finding) : Type 0 where
  pub cron : ClusterCron
  pub there : Contains (map.values content.crons) cron
  pub finding : IsFindingOf zones content cron f

-- a Job of the cluster whose CronJob isn't there
-- rule: audit-stray
pub record IsStray (content : Content) (notes : List ItemNote) (f : Finding) : Type 0 where
  pub job : Job
  pub there : Contains (map.values content.jobs) job
  pub stray : IsStrayJob content notes job f

-- a CronJob of the cluster that is stuck
-- rule: audit-stuck
pub record IsStuck (content : Content) (f : Finding) : Type 0 where
  pub cron : ClusterCron
  pub there : Contains (map.values content.crons) cron
  pub stuck : IsStuckCron cron f

abbrev pub IsFinding : List Zone → Content → List ItemNote → Finding → Type 0
IsFinding zones content notes f =
    IsFindingIn zones content f ⊎ (IsStray content notes f ⊎ IsStuck content f)

-- what the list has are all findings and nothing else, each once, in their order; the notes are
-- those of the items that can't be used
-- rule: audit-order
pub record IsAudit (zones : List Zone) (content : Content) (notes : List ItemNote)
    (findings : List Finding) : Type 0 where
  pub each : All (IsFinding zones content notes) findings
  pub all : (f : Finding) → IsFinding zones content notes f → Contains findings f
  pub rises : IsStrictlySortedBy finding_cmp findings
