-- What an accepted call answers.
use Rattle.std.proofs.Common.{◌≡◌, ℕ, ◌==◌, Bool, true, false, Option, None, Some, is_some, refl, arith}
use Rattle.std.specs.Prelude.{Result, Ok, Err, if◌then◌else◌}
use Rattle.std.proofs.lemmas.Bool.Decides.{nat_tests}
use Rattle.std.specs.FinMap as map
use Rattle.cj_base.specs.declared.refusal.Refusal.{Refusal}
use Rattle.cj_base.specs.declared.refusal.Refusal.TheVariants.{NotFound, AlreadyExists, Conflict, NotPermitted, AlreadyFinished}
use Rattle.cj_types.specs.Owners.{controller_of}
use Rattle.cj_types.specs.Current.{is_current}
use Rattle.cj_types.specs.declared.cron.CronJob.{CronJob}
use Rattle.cj_types.specs.declared.cron.CronJobDraft.{CronJobDraft}
use Rattle.cj_types.specs.declared.cron.CronStatus.{CronStatus}
use Rattle.cj_types.specs.declared.job.Job.{Job}
use Rattle.cj_types.specs.declared.job.JobDraft.{JobDraft}
use Rattle.cj_types.specs.declared.policy.Outcome.{Outcome}
use Rattle.cj_store.specs.Content.{Content}
use Rattle.cj_store.specs.Metadata.{version_not_allowed}
use Rattle.cj_store.specs.Equal.{same_owners}
use Rattle.cj_store.specs.Crons.{new_cron, cron_created, updated_cron, cron_updated_from, with_status, status_set_from, last_cron, cron_deleted_from}
use Rattle.cj_store.specs.Jobs.{new_job, job_made, job_created, updated_job, job_updated_from, is_asked, last_job, job_deleted_from, ended_job, job_ended_from}
use Rattle.cj_store.specs.store_laws.Answers.{IsFrom, CronAnswers, JobAnswers}

-- Where a call is accepted that is refused unless a test holds, the test holds.
ok_if : {X : Type 0} (b : Bool) (r : Result X Refusal) (y : Refusal) (x : X) → (if b then r else Err y) ≡ Ok x
    → (b ≡ true) × (r ≡ Ok x)
ok_if true r y x h = (refl, h)
ok_if false r y x h = absurd (cc h)

-- Where a call is accepted that is refused if a test holds, the test doesn't hold.
ok_else : {X : Type 0} (b : Bool) (r : Result X Refusal) (y : Refusal) (x : X) → (if b then Err y else r) ≡ Ok x
    → (b ≡ false) × (r ≡ Ok x)
ok_else true r y x h = absurd (cc h)
ok_else false r y x h = (refl, h)

-- What is found not to be there is None.
none_is : {X : Type 0} (o : Option X) → is_some o ≡ false → o ≡ None
none_is None e = refl
none_is (Some x) e = absurd (cc e)

-- Where two accepted answers are the same, so are the objects in them.
ok_is : {X : Type 0} (a b : X) → ◌≡◌ {A = Result X Refusal} (Ok a) (Ok b) → a ≡ b
ok_is a b h = cc

-- Two numbers that are found equal are the same number.
number_is : (m n : ℕ) → (m == n) ≡ true → m ≡ n
number_is m n h = grind (arith, nat_tests)

-- An accepted create of a CronJob is of a free name, and answers the new one.
created_is : (s : Content) (draft : CronJobDraft) (now : ℕ) (x : CronJob) → cron_created s draft now ≡ Ok x
    → (map.get s.crons draft.key ≡ None) × (new_cron s draft now ≡ x)
created_is s draft now x h =
    let a = ok_else (is_some draft.meta.version) _ version_not_allowed x h in
    let b = ok_else (is_some (map.get s.crons draft.key)) (Ok (new_cron s draft now)) AlreadyExists x a.1 in
    (none_is (map.get s.crons draft.key) b.0, ok_is _ _ b.1)

-- An accepted update of a CronJob answers the one that stood there, current to the draft, updated.
updated_is : (s : Content) (draft : CronJobDraft) (o : Option CronJob) (x : CronJob)
    → cron_updated_from s draft o ≡ Ok x → IsFrom o (λ old. is_current draft.meta old.meta ≡ true)
    (updated_cron s draft) x
updated_is s draft None x h = absurd (cc h)
updated_is s draft (Some c) x h =
    let a = ok_if (is_current draft.meta c.meta) (Ok (updated_cron s draft c)) (Conflict c.meta.version) x h in
    record { old = c; there = refl; passed = a.0; is = ok_is _ _ a.1 }

-- An accepted status answers the CronJob of that uid and version that stood there, with it set.
set_is : (s : Content) (u v : ℕ) (status : CronStatus) (o : Option CronJob) (x : CronJob)
    → status_set_from s u v status o ≡ Ok x → IsFrom o (λ old. (old.meta.uid ≡ u) × (old.meta.version ≡ v))
    (with_status s status) x
set_is s u v status None x h = absurd (cc h)
set_is s u v status (Some c) x h =
    let a = ok_if (c.meta.uid == u) _ NotFound x h in
    let b = ok_if (c.meta.version == v) (Ok (with_status s status c)) (Conflict c.meta.version) x a.1 in
    record { old = c; there = refl; passed = (number_is _ _ a.0, number_is _ _ b.0); is = ok_is _ _ b.1 }

-- An accepted deletion of a CronJob answers the one that stood there, as its last.
deleted_is : (s : Content) (o : Option CronJob) (x : CronJob) → cron_deleted_from s o ≡ Ok x
    → IsFrom o (λ _. Unit {0}) (last_cron s) x
deleted_is s None x h = absurd (cc h)
deleted_is s (Some c) x h = record { old = c; there = refl; passed = tt; is = ok_is _ _ h }

-- For answer_laws, clause crons: what each accepted call on CronJobs answers.
pub cron_answers : CronAnswers
cron_answers s = record {
  created = λ draft now c h. created_is s draft now c h;
  updated = λ draft c h. updated_is s draft (map.get s.crons draft.key) c h;
  status = λ key uid version status c h. set_is s uid version status (map.get s.crons key) c h;
  deleted = λ key c h. deleted_is s (map.get s.crons key) c h;
}

-- A controller's accepted create of a Job is of a free name, and answers the new one.
made_is : (s : Content) (draft : JobDraft) (now : ℕ) (x : Job) → job_made s draft now ≡ Ok x
    → (map.get s.jobs draft.key ≡ None) × (new_job s draft now ≡ x)
made_is s draft now x h =
    let b = ok_else (is_some (map.get s.jobs draft.key)) (Ok (new_job s draft now)) AlreadyExists x h in
    (none_is (map.get s.jobs draft.key) b.0, ok_is _ _ b.1)

-- A user's accepted create of a Job names no controller, and is one that a controller may make.
job_created_is : (s : Content) (draft : JobDraft) (now : ℕ) (x : Job) → job_created s draft now ≡ Ok x
    → (controller_of draft.owners ≡ None) × (job_made s draft now ≡ Ok x)
job_created_is s draft now x h =
    let a = ok_else (is_some (controller_of draft.owners)) _ NotPermitted x h in
    let b = ok_else (is_some draft.meta.version) (job_made s draft now) version_not_allowed x a.1 in
    (none_is (controller_of draft.owners) a.0, b.1)

-- An accepted update of a Job answers the one that stood there, of the same owners, updated.
job_updated_is : (s : Content) (draft : JobDraft) (o : Option Job) (x : Job) → job_updated_from s draft o ≡ Ok x
    → IsFrom o (λ old. (is_current draft.meta old.meta ≡ true) × (same_owners draft.owners old.owners ≡ true))
    (updated_job s draft) x
job_updated_is s draft None x h = absurd (cc h)
job_updated_is s draft (Some j) x h =
    let a = ok_if (is_current draft.meta j.meta) _ (Conflict j.meta.version) x h in
    let b = ok_if (same_owners draft.owners j.owners) (Ok (updated_job s draft j)) NotPermitted x a.1 in
    record { old = j; there = refl; passed = (a.0, b.0); is = ok_is _ _ b.1 }

-- An accepted deletion of a Job answers the one that stood there, of the uid asked for, if any.
job_deleted_is : (s : Content) (u : Option ℕ) (o : Option Job) (x : Job) → job_deleted_from s u o ≡ Ok x
    → IsFrom o (λ old. is_asked u old.meta.uid ≡ true) (last_job s) x
job_deleted_is s u None x h = absurd (cc h)
job_deleted_is s u (Some j) x h =
    let a = ok_if (is_asked u j.meta.uid) (Ok (last_job s j)) NotFound x h in
    record { old = j; there = refl; passed = a.0; is = ok_is _ _ a.1 }

-- An accepted end of a Job answers the one that stood there, of that uid and not ended, ended.
job_ended_is : (s : Content) (u : ℕ) (out : Outcome) (now : ℕ) (o : Option Job) (x : Job)
    → job_ended_from s u out now o ≡ Ok x → IsFrom o (λ old. (old.meta.uid ≡ u) × (old.outcome ≡ None))
    (ended_job s out now) x
job_ended_is s u out now None x h = absurd (cc h)
job_ended_is s u out now (Some j) x h =
    let a = ok_if (j.meta.uid == u) _ NotFound x h in
    let b = ok_else (is_some j.outcome) (Ok (ended_job s out now j)) AlreadyFinished x a.1 in
    record { old = j; there = refl; passed = (number_is _ _ a.0, none_is _ b.0); is = ok_is _ _ b.1 }

-- For answer_laws, clause jobs: what each accepted call on Jobs answers.
pub job_answers : JobAnswers
job_answers s = record {
  made = λ draft now j h. made_is s draft now j h;
  created = λ draft now j h. job_created_is s draft now j h;
  updated = λ draft j h. job_updated_is s draft (map.get s.jobs draft.key) j h;
  deleted = λ key uid j h. job_deleted_is s uid (map.get s.jobs key) j h;
  ended = λ key uid out now j h. job_ended_is s uid out now (map.get s.jobs key) j h;
}
