-- What others keep to: users, the Job controller, the garbage collector. They create, edit and
-- delete CronJobs and Jobs as they like, but for these fields of one CronJob, by its uid, and of
-- its Jobs.
--
-- What the model leaves out: admission hooks that change what is sent, so that a Job is stored
-- otherwise than a sync or somebody else wrote it; spec.suspend and spec.parallelism of a held Job,
-- which Kueue and the like set ("held" is the annotation alone); and a restore of etcd, which takes
-- versions back.
use Rattle.std.specs.Prelude.{◌≡◌, ◌⊎◌, ℕ, true, List, [], ◌∷◌, IfSome}
use Rattle.cj_fence.specs.declared.objects.Cron.{Cron}
use Rattle.cj_fence.specs.declared.objects.Job.{Job}
use Rattle.cj_fence.specs.declared.cluster.Cluster.{Cluster}
use Rattle.cj_fence.specs.declared.call.Write.{Write}
use Rattle.cj_fence.specs.declared.call.Write.TheVariants as By
use Rattle.cj_fence.specs.Tables.{find}
use Rattle.cj_fence.specs.History.{Deed, Asked, Wrote, Told, state_of}

-- nobody else writes the status of the CronJob
-- rule: others-keep-to
pub record KeepsCron (new old : Cron) : Type 0 where
  -- status.lastScheduleTime
  pub last : new.last ≡ old.last
  -- status.active
  pub active : new.active ≡ old.active

-- of a Job of it that stands nobody else changes what makes it one, or its hold, or un-ends it
-- rule: others-keep-to
pub record KeepsJob (new old : Job) : Type 0 where
  -- metadata.ownerReferences: the controller
  pub owner : new.owner ≡ old.owner
  -- metadata.annotations: the scheduled time
  pub time : new.time ≡ old.time
  -- metadata.annotations: the policy
  pub policy : new.policy ≡ old.policy
  -- metadata.annotations: that it is held
  pub held : new.held ≡ old.held
  -- status.conditions: Complete or Failed
  pub finished : old.finished ≡ true → new.finished ≡ true

-- A write keeps to it, for the CronJob of this uid, where it replaces what stands: that CronJob, or
-- a Job whose controller it was or is by the write. A deletion always does.
-- rule: others-keep-to
abbrev pub KeepsTo : List ℕ → Cluster → Write → Type 0
KeepsTo u s (By.PutCron n c) = IfSome (find n s.crons) (λ old. old.uid ≡ u → KeepsCron c old)
KeepsTo u s (By.DropCron n) = Unit {0}
KeepsTo u s (By.PutJob n j) =
    IfSome (find n s.jobs) (λ old. (old.owner ≡ u) ⊎ (j.owner ≡ u) → KeepsJob j old)
KeepsTo u s (By.DropJob n) = Unit {0}

-- the calls of syncs are no others' writes
abbrev pub DeedKeepsTo : List ℕ → Cluster → Deed → Type 0
DeedKeepsTo u s (Asked y call reached a) = Unit {0}
DeedKeepsTo u s (Wrote w) = KeepsTo u s w

-- every write of others keeps to it, for the CronJob of this uid
-- rule: others-keep-to
abbrev pub OthersKeepTo : List ℕ → List Told → Type 0
OthersKeepTo u [] = Unit {0}
OthersKeepTo u (e ∷ h) = DeedKeepsTo u (state_of h) e.deed × OthersKeepTo u h
