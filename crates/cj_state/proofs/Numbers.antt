-- The version of a write is the one after the last.
use Rattle.std.proofs.Common.{◌≡◌, ℕ, ◌+◌, Bool, true, false, ◌==◌, Option, Some, None, sym, ap, ◌∙◌}
use Rattle.std.specs.Prelude.{Ok, Err, if◌then◌else◌}
use Rattle.std.specs.FinMap as map
use Rattle.cj_base.specs.declared.refusal.Refusal.TheVariants.{NotFound, NotPermitted, Conflict, AlreadyExists, AlreadyFinished}
use Rattle.cj_types.specs.Keys.{Place}
use Rattle.cj_types.specs.declared.cron.CronJob.{CronJob}
use Rattle.cj_types.specs.declared.cron.CronJobDraft.{CronJobDraft}
use Rattle.cj_types.specs.declared.cron.CronStatus.{CronStatus}
use Rattle.cj_types.specs.declared.job.Job.{Job}
use Rattle.cj_types.specs.declared.job.JobDraft.{JobDraft}
use Rattle.cj_types.specs.declared.policy.Outcome.{Outcome}
use Rattle.cj_types.specs.declared.event.Event.{Event}
use Rattle.cj_store.specs.Content.{Content}
use Rattle.cj_store.specs.Change.{map_ok, cron_added, cron_modified, cron_gone, job_added, job_modified, job_gone}
use Rattle.cj_store.specs.Metadata.{version_not_allowed}
use Rattle.cj_store.specs.Crons.{new_cron, cron_created, updated_cron, cron_updated, cron_updated_from, last_cron, cron_deleted, cron_deleted_from, status_set, status_set_from, with_status}
use Rattle.cj_store.specs.Jobs.{job_made, job_created, new_job, updated_job, job_updated, job_updated_from, ended_job, job_ended, job_ended_from, job_deleted, job_deleted_from, is_asked, last_job}
use Rattle.cj_types.specs.Events.{version_of}
use Rattle.cj_queue.specs.Queue.{has}
use Rattle.cj_state.specs.declared.phases.sync.InFlight.{InFlight}
use Rattle.cj_state.specs.declared.state.State.{State}
use Rattle.cj_state.specs.Sound.{IsSound}

-- For status_from: a CronJob that is there gets the next version where its status is set.
status_case : (s : Content) (v w : ℕ) (status : CronStatus) (cron : CronJob) (a b : Bool) (e : Event)
    → map_ok cron_modified (if a then (if b then Ok (with_status s status cron) else Err (Conflict w))
    else Err NotFound) ≡ Ok e → version_of e ≡ s.version + 1
status_case s v w status cron true true e h =
    let i : cron_modified (with_status s status cron) ≡ e = cc in ap version_of (sym i)
status_case s v w status cron true false e h = absurd (cc h)
status_case s v w status cron false b e h = absurd (cc h)

-- For status_version: as status_case, where a CronJob may be there or not.
status_from : (s : Content) (u v : ℕ) (status : CronStatus) (o : Option CronJob) (e : Event)
    → map_ok cron_modified (status_set_from s u v status o) ≡ Ok e → version_of e ≡ s.version + 1
status_from s u v status None e h = absurd (cc h)
status_from s u v status (Some cron) e h = status_case s v cron.meta.version status cron (cron.meta.uid == u)
    (cron.meta.version == v) e h

-- A CronJob whose status is set gets the version after the store's last.
pub status_version : (s : Content) (k : Place) (u v : ℕ) (status : CronStatus) (e : Event)
    → map_ok cron_modified (status_set s k u v status) ≡ Ok e → version_of e ≡ s.version + 1
status_version s k u v status e h = status_from s u v status (map.get s.crons k) e h

-- A Job that is added where its key is free gets the version after the store's last.
made_case : (s : Content) (draft : JobDraft) (now : ℕ) (b : Bool) (e : Event)
    → map_ok job_added (if b then Err AlreadyExists else Ok (new_job s draft now)) ≡ Ok e → version_of e ≡ s.version + 1
made_case s draft now true e h = absurd (cc h)
made_case s draft now false e h = let i : job_added (new_job s draft now) ≡ e = cc in ap version_of (sym i)

-- A Job that a worker makes gets the version after the store's last.
pub made_version : (s : Content) (draft : JobDraft) (now : ℕ) (e : Event)
    → map_ok job_added (job_made s draft now) ≡ Ok e → version_of e ≡ s.version + 1
made_version s draft now e h = made_case s draft now _ e h

-- For gone_from: the deletion of a Job that is there gets the next version where it is accepted.
gone_case : (s : Content) (job : Job) (b : Bool) (e : Event)
    → map_ok job_gone (if b then Ok (last_job s job) else Err NotFound) ≡ Ok e → version_of e ≡ s.version + 1
gone_case s job true e h = let i : job_gone (last_job s job) ≡ e = cc in ap version_of (sym i)
gone_case s job false e h = absurd (cc h)

-- For gone_version: as gone_case, where a Job may be there or not.
gone_from : (s : Content) (u : Option ℕ) (o : Option Job) (e : Event) → map_ok job_gone (job_deleted_from s u o) ≡ Ok e
    → version_of e ≡ s.version + 1
gone_from s u None e h = absurd (cc h)
gone_from s u (Some job) e h = gone_case s job (is_asked u job.meta.uid) e h

-- The deletion of a Job gets the version after the store's last.
pub gone_version : (s : Content) (k : Place) (u : Option ℕ) (e : Event) → map_ok job_gone (job_deleted s k u) ≡ Ok e
    → version_of e ≡ s.version + 1
gone_version s k u e h = gone_from s u (map.get s.jobs k) e h

-- ---- of users and runners

-- For created_version: what it says, with the reasons for a refusal spelled out.
created_case : (s : Content) (d : CronJobDraft) (now : ℕ) (a b : Bool) (e : Event)
    → map_ok cron_added (if a then Err version_not_allowed else if b then Err AlreadyExists else Ok (new_cron s d now))
    ≡ Ok e → version_of e ≡ s.version + 1
created_case s d now true b e h = absurd (cc h)
created_case s d now false true e h = absurd (cc h)
created_case s d now false false e h = let i : cron_added (new_cron s d now) ≡ e = cc in ap version_of (sym i)

-- A CronJob that is created gets the version after the store's last.
pub created_version : (s : Content) (d : CronJobDraft) (now : ℕ) (e : Event)
    → map_ok cron_added (cron_created s d now) ≡ Ok e → version_of e ≡ s.version + 1
created_version s d now e h = created_case s d now _ _ e h

-- For updated_from: a CronJob that is there gets the next version where its update is accepted.
updated_case : (s : Content) (d : CronJobDraft) (cron : CronJob) (a : Bool) (e : Event)
    → map_ok cron_modified (if a then Ok (updated_cron s d cron) else Err (Conflict cron.meta.version)) ≡ Ok e
    → version_of e ≡ s.version + 1
updated_case s d cron true e h = let i : cron_modified (updated_cron s d cron) ≡ e = cc in ap version_of (sym i)
updated_case s d cron false e h = absurd (cc h)

-- For updated_version: as updated_case, where a CronJob may be there or not.
updated_from : (s : Content) (d : CronJobDraft) (o : Option CronJob) (e : Event)
    → map_ok cron_modified (cron_updated_from s d o) ≡ Ok e → version_of e ≡ s.version + 1
updated_from s d None e h = absurd (cc h)
updated_from s d (Some cron) e h = updated_case s d cron _ e h

-- A CronJob that is updated gets the version after the store's last.
pub updated_version : (s : Content) (d : CronJobDraft) (e : Event) → map_ok cron_modified (cron_updated s d) ≡ Ok e
    → version_of e ≡ s.version + 1
updated_version s d e h = updated_from s d (map.get s.crons d.key) e h

-- For deleted_version: what it says, where a CronJob may be there or not.
deleted_from : (s : Content) (o : Option CronJob) (e : Event) → map_ok cron_gone (cron_deleted_from s o) ≡ Ok e
    → version_of e ≡ s.version + 1
deleted_from s None e h = absurd (cc h)
deleted_from s (Some cron) e h = let i : cron_gone (last_cron s cron) ≡ e = cc in ap version_of (sym i)

-- The deletion of a CronJob gets the version after the store's last.
pub deleted_version : (s : Content) (k : Place) (e : Event) → map_ok cron_gone (cron_deleted s k) ≡ Ok e
    → version_of e ≡ s.version + 1
deleted_version s k e h = deleted_from s (map.get s.crons k) e h

-- For job_version: what it says, with the reasons for a refusal spelled out.
job_case : (s : Content) (d : JobDraft) (now : ℕ) (a b c : Bool) (e : Event)
    → map_ok job_added (if a then Err NotPermitted else if b then Err version_not_allowed
    else if c then Err AlreadyExists else Ok (new_job s d now)) ≡ Ok e → version_of e ≡ s.version + 1
job_case s d now true b c e h = absurd (cc h)
job_case s d now false true c e h = absurd (cc h)
job_case s d now false false c e h = made_case s d now c e h

-- A Job that a user creates gets the version after the store's last.
pub job_version : (s : Content) (d : JobDraft) (now : ℕ) (e : Event) → map_ok job_added (job_created s d now) ≡ Ok e
    → version_of e ≡ s.version + 1
job_version s d now e h = job_case s d now _ _ _ e h

-- For changed_from: a Job that is there gets the next version where its update is accepted.
changed_case : (s : Content) (d : JobDraft) (job : Job) (a b : Bool) (e : Event)
    → map_ok job_modified (if a then (if b then Ok (updated_job s d job) else Err NotPermitted)
    else Err (Conflict job.meta.version)) ≡ Ok e → version_of e ≡ s.version + 1
changed_case s d job true true e h = let i : job_modified (updated_job s d job) ≡ e = cc in ap version_of (sym i)
changed_case s d job true false e h = absurd (cc h)
changed_case s d job false b e h = absurd (cc h)

-- For changed_version: as changed_case, where a Job may be there or not.
changed_from : (s : Content) (d : JobDraft) (o : Option Job) (e : Event)
    → map_ok job_modified (job_updated_from s d o) ≡ Ok e → version_of e ≡ s.version + 1
changed_from s d None e h = absurd (cc h)
changed_from s d (Some job) e h = changed_case s d job _ _ e h

-- A Job that is updated gets the version after the store's last.
pub changed_version : (s : Content) (d : JobDraft) (e : Event) → map_ok job_modified (job_updated s d) ≡ Ok e
    → version_of e ≡ s.version + 1
changed_version s d e h = changed_from s d (map.get s.jobs d.key) e h

-- For ended_from: a Job that is there gets the next version where its end is accepted.
ended_case : (s : Content) (o : Outcome) (now : ℕ) (job : Job) (a b : Bool) (e : Event)
    → map_ok job_modified (if a then (if b then Err AlreadyFinished else Ok (ended_job s o now job)) else Err NotFound)
    ≡ Ok e → version_of e ≡ s.version + 1
ended_case s o now job true true e h = absurd (cc h)
ended_case s o now job true false e h = let i : job_modified (ended_job s o now job) ≡ e = cc in ap version_of (sym i)
ended_case s o now job false b e h = absurd (cc h)

-- For ended_version: as ended_case, where a Job may be there or not.
ended_from : (s : Content) (u : ℕ) (o : Outcome) (now : ℕ) (x : Option Job) (e : Event)
    → map_ok job_modified (job_ended_from s u o now x) ≡ Ok e → version_of e ≡ s.version + 1
ended_from s u o now None e h = absurd (cc h)
ended_from s u o now (Some job) e h = ended_case s o now job _ _ e h

-- A Job that ends gets the version after the store's last.
pub ended_version : (s : Content) (k : Place) (u : ℕ) (o : Outcome) (now : ℕ) (e : Event)
    → map_ok job_modified (job_ended s k u o now) ≡ Ok e → version_of e ≡ s.version + 1
ended_version s k u o now e h = ended_from s u o now (map.get s.jobs k) e h

-- the same as the watch counts
pub status_numbered : (s : State) (k : Place) (u v : ℕ) (status : CronStatus) (e : Event) → IsSound s
    → map_ok cron_modified (status_set s.store k u v status) ≡ Ok e → version_of e ≡ s.watch.count + 1
status_numbered s k u v status e sound h = status_version s.store k u v status e h ∙ ap (λ n. n + 1) (sym sound.counted)

-- A Job that a worker makes gets the number that the watch counts next.
pub made_numbered : (s : State) (draft : JobDraft) (now : ℕ) (e : Event) → IsSound s
    → map_ok job_added (job_made s.store draft now) ≡ Ok e → version_of e ≡ s.watch.count + 1
made_numbered s draft now e sound h = made_version s.store draft now e h ∙ ap (λ n. n + 1) (sym sound.counted)

-- The deletion of a Job gets the number that the watch counts next.
pub gone_numbered : (s : State) (k : Place) (u : Option ℕ) (e : Event) → IsSound s
    → map_ok job_gone (job_deleted s.store k u) ≡ Ok e → version_of e ≡ s.watch.count + 1
gone_numbered s k u e sound h = gone_version s.store k u e h ∙ ap (λ n. n + 1) (sym sound.counted)

-- The key that a worker holds is being worked on.
pub held_key : (s : State) (w : ℕ) (sync : InFlight) → IsSound s → map.get s.syncs w ≡ Some sync
    → has s.queue.row.processing sync.key ≡ true
held_key s w sync sound h = sound.held w sync h

-- A CronJob that is created gets the number that the watch counts next.
pub created_numbered : (s : State) (d : CronJobDraft) (now : ℕ) (e : Event) → IsSound s
    → map_ok cron_added (cron_created s.store d now) ≡ Ok e → version_of e ≡ s.watch.count + 1
created_numbered s d now e sound h = created_version s.store d now e h ∙ ap (λ n. n + 1) (sym sound.counted)

-- A CronJob that is updated gets the number that the watch counts next.
pub updated_numbered : (s : State) (d : CronJobDraft) (e : Event) → IsSound s
    → map_ok cron_modified (cron_updated s.store d) ≡ Ok e → version_of e ≡ s.watch.count + 1
updated_numbered s d e sound h = updated_version s.store d e h ∙ ap (λ n. n + 1) (sym sound.counted)

-- The deletion of a CronJob gets the number that the watch counts next.
pub deleted_numbered : (s : State) (k : Place) (e : Event) → IsSound s → map_ok cron_gone (cron_deleted s.store k)
    ≡ Ok e → version_of e ≡ s.watch.count + 1
deleted_numbered s k e sound h = deleted_version s.store k e h ∙ ap (λ n. n + 1) (sym sound.counted)

-- A Job that a user creates gets the number that the watch counts next.
pub job_numbered : (s : State) (d : JobDraft) (now : ℕ) (e : Event) → IsSound s
    → map_ok job_added (job_created s.store d now) ≡ Ok e → version_of e ≡ s.watch.count + 1
job_numbered s d now e sound h = job_version s.store d now e h ∙ ap (λ n. n + 1) (sym sound.counted)

-- A Job that is updated gets the number that the watch counts next.
pub changed_numbered : (s : State) (d : JobDraft) (e : Event) → IsSound s
    → map_ok job_modified (job_updated s.store d) ≡ Ok e → version_of e ≡ s.watch.count + 1
changed_numbered s d e sound h = changed_version s.store d e h ∙ ap (λ n. n + 1) (sym sound.counted)

-- A Job that ends gets the number that the watch counts next.
pub ended_numbered : (s : State) (k : Place) (u : ℕ) (o : Outcome) (now : ℕ) (e : Event) → IsSound s
    → map_ok job_modified (job_ended s.store k u o now) ≡ Ok e → version_of e ≡ s.watch.count + 1
ended_numbered s k u o now e sound h = ended_version s.store k u o now e h ∙ ap (λ n. n + 1) (sym sound.counted)
