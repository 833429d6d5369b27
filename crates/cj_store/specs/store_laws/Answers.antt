-- The answer of each accepted call.
use Rattle.std.specs.Prelude.{◌≡◌, ℕ, Option, Some, None, true, Ok}
use Rattle.std.specs.FinMap as map
use Rattle.cj_types.specs.Keys.{Place}
use Rattle.cj_types.specs.Owners.{controller_of}
use Rattle.cj_types.specs.Current.{is_current}
use Rattle.cj_types.specs.declared.cron.CronJob.{CronJob}
use Rattle.cj_types.specs.declared.cron.CronJobDraft.{CronJobDraft}
use Rattle.cj_types.specs.declared.cron.CronStatus.{CronStatus}
use Rattle.cj_types.specs.declared.job.Job.{Job}
use Rattle.cj_types.specs.declared.job.JobDraft.{JobDraft}
use Rattle.cj_types.specs.declared.policy.Outcome.{Outcome}
use Rattle.cj_store.specs.Content.{Content}
use Rattle.cj_store.specs.Equal.{same_owners}
use Rattle.cj_store.specs.Crons.{new_cron, cron_created, updated_cron, cron_updated, with_status, status_set, last_cron, cron_deleted}
use Rattle.cj_store.specs.Jobs.{new_job, job_made, job_created, updated_job, job_updated, is_asked, last_job, job_deleted, ended_job, job_ended}

-- the answer is made of the object at the place, which passed the call's test
pub record IsFrom {X : Type 0} (standing : Option X) (passes : X → Type 0) (made : X → X)
    (answer : X) : Type 0 where
  pub old : X
  pub there : standing ≡ Some old
  pub passed : passes old
  pub is : made old ≡ answer

pub record CronAnswersAt (s : Content) : Type 0 where
  pub created : (draft : CronJobDraft) (now : ℕ) (c : CronJob) → cron_created s draft now ≡ Ok c
      → (map.get s.crons draft.key ≡ None) × (new_cron s draft now ≡ c)
  pub updated : (draft : CronJobDraft) (c : CronJob) → cron_updated s draft ≡ Ok c
      → IsFrom (map.get s.crons draft.key) (λ old. is_current draft.meta old.meta ≡ true)
      (updated_cron s draft) c
  pub status : (key : Place) (uid version : ℕ) (status : CronStatus) (c : CronJob)
      → status_set s key uid version status ≡ Ok c
      → IsFrom (map.get s.crons key) (λ old. (old.meta.uid ≡ uid) × (old.meta.version ≡ version))
      (with_status s status) c
  pub deleted : (key : Place) (c : CronJob) → cron_deleted s key ≡ Ok c
      → IsFrom (map.get s.crons key) (λ _. Unit {0}) (last_cron s) c

-- rule: planned-change
abbrev pub CronAnswers : Type 0
CronAnswers = (s : Content) → CronAnswersAt s

pub record JobAnswersAt (s : Content) : Type 0 where
  pub made : (draft : JobDraft) (now : ℕ) (j : Job) → job_made s draft now ≡ Ok j
      → (map.get s.jobs draft.key ≡ None) × (new_job s draft now ≡ j)
  pub created : (draft : JobDraft) (now : ℕ) (j : Job) → job_created s draft now ≡ Ok j
      → (controller_of draft.owners ≡ None) × (job_made s draft now ≡ Ok j)
  pub updated : (draft : JobDraft) (j : Job) → job_updated s draft ≡ Ok j
      → IsFrom (map.get s.jobs draft.key)
      (λ old. (is_current draft.meta old.meta ≡ true)
      × (same_owners draft.owners old.owners ≡ true)) (updated_job s draft) j
  pub deleted : (key : Place) (uid : Option ℕ) (j : Job) → job_deleted s key uid ≡ Ok j
      → IsFrom (map.get s.jobs key) (λ old. is_asked uid old.meta.uid ≡ true) (last_job s) j
  pub ended : (key : Place) (uid : ℕ) (outcome : Outcome) (now : ℕ) (j : Job)
      → job_ended s key uid outcome now ≡ Ok j
      → IsFrom (map.get s.jobs key) (λ old. (old.meta.uid ≡ uid) × (old.outcome ≡ None))
      (ended_job s outcome now) j

-- rule: planned-change
abbrev pub JobAnswers : Type 0
JobAnswers = (s : Content) → JobAnswersAt s
