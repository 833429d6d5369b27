-- What a create answers has what the draft says.
use Rattle.std.specs.Prelude.{◌≡◌, ℕ, Bool, true, false, Result, Ok, Err, is_some, if◌then◌else◌, refl}
use Rattle.std.proofs.Common.{subst, arith}
use Rattle.std.specs.FinMap as map
use Rattle.cj_base.specs.declared.refusal.Refusal.{Refusal}
use Rattle.cj_base.specs.declared.refusal.Refusal.TheVariants.{NotPermitted, AlreadyExists}
use Rattle.cj_types.specs.Owners.{controller_of}
use Rattle.cj_types.specs.declared.cron.CronJob.{CronJob}
use Rattle.cj_types.specs.declared.cron.CronJobDraft.{CronJobDraft}
use Rattle.cj_types.specs.declared.job.Job.{Job}
use Rattle.cj_types.specs.declared.job.JobDraft.{JobDraft}
use Rattle.cj_store.specs.Content.{Content}
use Rattle.cj_store.specs.Crons.{cron_created, new_cron}
use Rattle.cj_store.specs.Jobs.{job_created, new_job}
use Rattle.cj_store.specs.Metadata.{version_not_allowed}
use Rattle.cj_manifest.specs.Laws.{IsCronOf, IsJobOf}

-- A create that answers an object wasn't refused, so that the object is the further answer.
made_where : {X : Type 0} (is_refused : Bool) (e : Refusal) (r : Result X Refusal) (o : X)
    → (if is_refused then Err e else r) ≡ Ok o → r ≡ Ok o
made_where true e r o made = absurd (cc made)
made_where false e r o made = made

-- Two objects that are the same answer are the same object.
the_made : {X : Type 0} (n o : X) → ◌≡◌ {A = Result X Refusal} (Ok n) (Ok o) → n ≡ o
the_made n o made = cc made

-- A CronJob that a store makes new of a draft has what the draft says.
new_cron_is : (s : Content) (draft : CronJobDraft) (now : ℕ) → IsCronOf draft (new_cron s draft now)
new_cron_is s draft now = record {
  key = refl;
  meta = record {
    labels = refl;
    annotations = refl;
    generation = search arith;
  };
  spec = refl;
}

-- A Job that a store makes new of a draft has what the draft says.
new_job_is : (s : Content) (draft : JobDraft) (now : ℕ) → IsJobOf draft (new_job s draft now)
new_job_is s draft now = record {
  key = refl;
  meta = record {
    labels = refl;
    annotations = refl;
    generation = search arith;
  };
  owners = refl;
  spec = refl;
}

-- For created_laws: the CronJob that a create answers has what its draft says.
pub created_cron_is : (s : Content) (draft : CronJobDraft) (now : ℕ) (o : CronJob) → cron_created s draft now ≡ Ok o
    → IsCronOf draft o
created_cron_is s draft now o made =
    let asked = made_where (is_some draft.meta.version) version_not_allowed _ o made in
    let there = made_where (is_some (map.get s.crons draft.key)) AlreadyExists _ o asked in
    subst (IsCronOf draft) (the_made (new_cron s draft now) o there) (new_cron_is s draft now)

-- For created_laws: the Job that a user's create answers has what its draft says.
pub created_job_is : (s : Content) (draft : JobDraft) (now : ℕ) (o : Job) → job_created s draft now ≡ Ok o
    → IsJobOf draft o
created_job_is s draft now o made =
    let free = made_where (is_some (controller_of draft.owners)) NotPermitted _ o made in
    let asked = made_where (is_some draft.meta.version) version_not_allowed _ o free in
    let there = made_where (is_some (map.get s.jobs draft.key)) AlreadyExists _ o asked in
    subst (IsJobOf draft) (the_made (new_job s draft now) o there) (new_job_is s draft now)
