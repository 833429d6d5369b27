-- Which write a call makes by the content is which it makes by the writes.
use Rattle.std.proofs.Common.{◌≡◌, ℕ, Bool, true, false, List, refl, sym, ap, ◌∙◌}
use Rattle.std.specs.Prelude.{Option, Some, None, is_some, ◌==◌, Ok, Err, if◌then◌else◌}
use Rattle.std.specs.FinMap as map
use Rattle.cj_base.specs.declared.refusal.Refusal.TheVariants.{NotPermitted, NotFound, Conflict, AlreadyExists, AlreadyFinished}
use Rattle.cj_types.specs.Keys.{Place}
use Rattle.cj_types.specs.Current.{is_current}
use Rattle.cj_types.specs.Owners.{controller_of}
use Rattle.cj_types.specs.declared.cron.CronJob.{CronJob}
use Rattle.cj_types.specs.declared.cron.CronJobDraft.{CronJobDraft}
use Rattle.cj_types.specs.declared.cron.CronStatus.{CronStatus}
use Rattle.cj_types.specs.declared.job.Job.{Job}
use Rattle.cj_types.specs.declared.job.JobDraft.{JobDraft}
use Rattle.cj_types.specs.declared.policy.Outcome.{Outcome}
use Rattle.cj_types.specs.declared.event.Event.{Event}
use Rattle.cj_store.specs.Content.{Content}
use Rattle.cj_store.specs.Equal.{same_owners}
use Rattle.cj_store.specs.Metadata.{version_not_allowed}
use Rattle.cj_store.specs.Change.{map_ok, cron_added, cron_modified, cron_gone, job_added, job_modified, job_gone}
use Rattle.cj_store.specs.Crons.{new_cron, cron_created as creates_cron, updated_cron, cron_updated as updates_cron, cron_updated_from, cron_deleted as deletes_cron, cron_deleted_from, status_set as sets_status, status_set_from, with_status}
use Rattle.cj_store.specs.Jobs.{new_job, job_made, job_created as creates_job, updated_job, job_updated as updates_job, job_updated_from, job_deleted as deletes_job, job_deleted_from, is_asked, last_job, ended_job, job_ended as ends_job, job_ended_from}
use Rattle.cj_history.specs.store.Written.{cron_created, cron_updated, status_set, job_created, job_updated, job_ended, job_deleted}
use Rattle.cj_history.specs.store.Planned.{create_cron, update_cron_from, update_cron, set_status_from, set_status, delete_cron_from, delete_cron, make_job, create_job, update_job_from, update_job, delete_job_from, delete_job, end_job_from, end_job}
use Rattle.cj_history.specs.store.Store.{IsStore}
use Rattle.cj_history.proofs.StoreLemmas.Alike.{new_cron_is, new_job_is, updated_cron_is, status_is, last_cron_is, updated_job_is, ended_job_is, last_job_is}

-- ws are the writes so far, and s is a content that has what they left.
module _ (ws : List Event) (s : Content) (is : IsStore ws s) where
  -- For the same tests a create of a CronJob is planned the same by content and writes.
  create_cron_case : (d : CronJobDraft) (now : ℕ) (a b : Bool)
      → map_ok cron_added (if a then Err version_not_allowed else if b then Err AlreadyExists
      else Ok (new_cron s d now)) ≡ (if a then Err version_not_allowed else if b then Err AlreadyExists
      else Ok (cron_created ws d now))
  create_cron_case d now true b = refl
  create_cron_case d now false true = refl
  create_cron_case d now false false = ap (λ (w : Event). Ok w) (sym (new_cron_is ws s is d now))

  -- A create of a CronJob is planned, or refused, by the content as by the writes.
  pub create_cron_same : (d : CronJobDraft) (now : ℕ) → map_ok cron_added (creates_cron s d now) ≡ create_cron ws d now
  create_cron_same d now =
      create_cron_case d now (is_some d.meta.version) (is_some (map.get s.crons d.key))
      ∙ ap (λ (o : Option CronJob). if is_some d.meta.version then Err version_not_allowed
      else if is_some o then Err AlreadyExists else Ok (cron_created ws d now)) (is.crons d.key)

  -- For the same test an update of a CronJob is planned the same by content and writes.
  update_cron_case : (d : CronJobDraft) (c : CronJob) (b : Bool)
      → map_ok cron_modified (if b then Ok (updated_cron s d c) else Err (Conflict c.meta.version))
      ≡ (if b then Ok (cron_updated ws d c) else Err (Conflict c.meta.version))
  update_cron_case d c true = ap (λ (w : Event). Ok w) (sym (updated_cron_is ws s is d c))
  update_cron_case d c false = refl

  -- An update is planned the same by content and writes, where a CronJob stands or none.
  update_cron_by : (d : CronJobDraft) (o : Option CronJob) → map_ok cron_modified (cron_updated_from s d o)
      ≡ update_cron_from ws d o
  update_cron_by d None = refl
  update_cron_by d (Some c) = update_cron_case d c (is_current d.meta c.meta)

  -- An update of a CronJob is planned, or refused, by the content as by the writes.
  pub update_cron_same : (d : CronJobDraft) → map_ok cron_modified (updates_cron s d) ≡ update_cron ws d
  update_cron_same d = update_cron_by d (map.get s.crons d.key) ∙ ap (update_cron_from ws d) (is.crons d.key)

  -- For the same tests a setting of a CronJob's status is the same by content and writes.
  status_case : (status : CronStatus) (c : CronJob) (a b : Bool)
      → map_ok cron_modified (if a then (if b then Ok (with_status s status c) else Err (Conflict c.meta.version))
      else Err NotFound)
      ≡ (if a then (if b then Ok (status_set ws status c) else Err (Conflict c.meta.version)) else Err NotFound)
  status_case status c true true = ap (λ (w : Event). Ok w) (sym (status_is ws s is status c))
  status_case status c true false = refl
  status_case status c false b = refl

  -- A setting of a status is the same by content and writes, where a CronJob stands or none.
  status_by : (u v : ℕ) (status : CronStatus) (o : Option CronJob)
      → map_ok cron_modified (status_set_from s u v status o) ≡ set_status_from ws u v status o
  status_by u v status None = refl
  status_by u v status (Some c) = status_case status c (c.meta.uid == u) (c.meta.version == v)

  -- A setting of a CronJob's status is planned, or refused, by the content as by the writes.
  pub status_same : (k : Place) (u v : ℕ) (status : CronStatus) → map_ok cron_modified (sets_status s k u v status)
      ≡ set_status ws k u v status
  status_same k u v status = status_by u v status (map.get s.crons k) ∙ ap (set_status_from ws u v status) (is.crons k)

  -- A deletion is planned the same by content and writes, where a CronJob stands or none.
  delete_cron_by : (o : Option CronJob) → map_ok cron_gone (cron_deleted_from s o) ≡ delete_cron_from ws o
  delete_cron_by None = refl
  delete_cron_by (Some c) = ap (λ (w : Event). Ok w) (sym (last_cron_is ws s is c))

  -- A deletion of a CronJob is planned, or refused, by the content as by the writes.
  pub delete_cron_same : (k : Place) → map_ok cron_gone (deletes_cron s k) ≡ delete_cron ws k
  delete_cron_same k = delete_cron_by (map.get s.crons k) ∙ ap (delete_cron_from ws) (is.crons k)

  -- Be the name taken or free, a make of a Job is planned the same by content and writes.
  make_case : (d : JobDraft) (now : ℕ) (b : Bool)
      → map_ok job_added (if b then Err AlreadyExists else Ok (new_job s d now))
      ≡ (if b then Err AlreadyExists else Ok (job_created ws d now))
  make_case d now true = refl
  make_case d now false = ap (λ (w : Event). Ok w) (sym (new_job_is ws s is d now))

  -- A worker's make of a Job is planned, or refused, by the content as by the writes.
  pub make_same : (d : JobDraft) (now : ℕ) → map_ok job_added (job_made s d now) ≡ make_job ws d now
  make_same d now =
      make_case d now (is_some (map.get s.jobs d.key))
      ∙ ap (λ (o : Option Job). if is_some o then Err AlreadyExists else Ok (job_created ws d now)) (is.jobs d.key)

  -- For the same tests a user's create of a Job is planned the same by content and writes.
  create_job_case : (d : JobDraft) (now : ℕ) (a b : Bool)
      → map_ok job_added (if a then Err NotPermitted else if b then Err version_not_allowed else job_made s d now)
      ≡ (if a then Err NotPermitted else if b then Err version_not_allowed else make_job ws d now)
  create_job_case d now true b = refl
  create_job_case d now false true = refl
  create_job_case d now false false = make_same d now

  -- A user's create of a Job is planned, or refused, by the content as by the writes.
  pub create_job_same : (d : JobDraft) (now : ℕ) → map_ok job_added (creates_job s d now) ≡ create_job ws d now
  create_job_same d now = create_job_case d now (is_some (controller_of d.owners)) (is_some d.meta.version)

  -- For the same tests an update of a Job is planned the same by content and writes.
  update_job_case : (d : JobDraft) (j : Job) (a b : Bool)
      → map_ok job_modified (if a then (if b then Ok (updated_job s d j) else Err NotPermitted)
      else Err (Conflict j.meta.version))
      ≡ (if a then (if b then Ok (job_updated ws d j) else Err NotPermitted) else Err (Conflict j.meta.version))
  update_job_case d j true true = ap (λ (w : Event). Ok w) (sym (updated_job_is ws s is d j))
  update_job_case d j true false = refl
  update_job_case d j false b = refl

  -- An update is planned the same by content and writes, where a Job stands or none.
  update_job_by : (d : JobDraft) (o : Option Job) → map_ok job_modified (job_updated_from s d o)
      ≡ update_job_from ws d o
  update_job_by d None = refl
  update_job_by d (Some j) = update_job_case d j (is_current d.meta j.meta) (same_owners d.owners j.owners)

  -- An update of a Job is planned, or refused, by the content as by the writes.
  pub update_job_same : (d : JobDraft) → map_ok job_modified (updates_job s d) ≡ update_job ws d
  update_job_same d = update_job_by d (map.get s.jobs d.key) ∙ ap (update_job_from ws d) (is.jobs d.key)

  -- For the same test of the uid a deletion of a Job is the same by content and writes.
  delete_job_case : (j : Job) (b : Bool) → map_ok job_gone (if b then Ok (last_job s j) else Err NotFound)
      ≡ (if b then Ok (job_deleted ws j) else Err NotFound)
  delete_job_case j true = ap (λ (w : Event). Ok w) (sym (last_job_is ws s is j))
  delete_job_case j false = refl

  -- A deletion is planned the same by content and writes, where a Job stands or none.
  delete_job_by : (u : Option ℕ) (o : Option Job) → map_ok job_gone (job_deleted_from s u o) ≡ delete_job_from ws u o
  delete_job_by u None = refl
  delete_job_by u (Some j) = delete_job_case j (is_asked u j.meta.uid)

  -- A deletion of a Job is planned, or refused, by the content as by the writes.
  pub delete_job_same : (k : Place) (u : Option ℕ) → map_ok job_gone (deletes_job s k u) ≡ delete_job ws k u
  delete_job_same k u = delete_job_by u (map.get s.jobs k) ∙ ap (delete_job_from ws u) (is.jobs k)

  -- For the same tests an end of a Job is planned the same by content and writes.
  end_case : (outcome : Outcome) (now : ℕ) (j : Job) (a b : Bool)
      → map_ok job_modified (if a then (if b then Err AlreadyFinished else Ok (ended_job s outcome now j))
      else Err NotFound)
      ≡ (if a then (if b then Err AlreadyFinished else Ok (job_ended ws outcome now j)) else Err NotFound)
  end_case outcome now j true true = refl
  end_case outcome now j true false = ap (λ (w : Event). Ok w) (sym (ended_job_is ws s is outcome now j))
  end_case outcome now j false b = refl

  -- An end is planned the same by content and writes, where a Job stands or none.
  end_by : (u : ℕ) (outcome : Outcome) (now : ℕ) (o : Option Job)
      → map_ok job_modified (job_ended_from s u outcome now o) ≡ end_job_from ws u outcome now o
  end_by u outcome now None = refl
  end_by u outcome now (Some j) = end_case outcome now j (j.meta.uid == u) (is_some j.outcome)

  -- An end of a Job is planned, or refused, by the content as by the writes.
  pub end_same : (k : Place) (u : ℕ) (outcome : Outcome) (now : ℕ) → map_ok job_modified (ends_job s k u outcome now)
      ≡ end_job ws k u outcome now
  end_same k u outcome now = end_by u outcome now (map.get s.jobs k) ∙ ap (end_job_from ws u outcome now) (is.jobs k)
