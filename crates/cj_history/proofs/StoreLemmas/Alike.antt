-- What the next write leaves by the content is what it leaves by the writes.
use Rattle.std.proofs.Common.{◌≡◌, ℕ, ◌+◌, Bool, cond, List, [], ◌∷◌, refl, sym, ap, ◌∙◌, arith}
use Rattle.std.specs.Prelude.{Option, Some, None}
use Rattle.std.specs.FinMap as map
use Rattle.cj_types.specs.Keys.{Place, place_cmp}
use Rattle.cj_types.specs.declared.cron.CronJob.{CronJob}
use Rattle.cj_types.specs.declared.cron.CronJobDraft.{CronJobDraft}
use Rattle.cj_types.specs.declared.cron.CronStatus.{CronStatus}
use Rattle.cj_types.specs.declared.job.Job.{Job}
use Rattle.cj_types.specs.declared.job.JobDraft.{JobDraft}
use Rattle.cj_types.specs.declared.policy.Outcome.{Outcome}
use Rattle.cj_types.specs.declared.event.Event.{Event}
use Rattle.cj_types.specs.declared.event.Event.TheVariants.{Added, Modified, Deleted}
use Rattle.cj_types.specs.declared.event.Object.TheVariants as Kind
use Rattle.cj_queue.proofs.Sets.{get_put, get_off}
use Rattle.cj_store.specs.Content.{Content, nothing}
use Rattle.cj_store.specs.Change.{after, cron_added, cron_modified, cron_gone, job_added, job_modified, job_gone}
use Rattle.cj_store.specs.Crons.{new_cron, updated_cron, with_status, last_cron}
use Rattle.cj_store.specs.Jobs.{new_job, updated_job, last_job, ended_job}
use Rattle.cj_history.specs.store.Written.{version, current_cron, current_job, cron_created, cron_updated, status_set, cron_deleted, job_created, job_updated, job_ended, job_deleted}
use Rattle.cj_history.specs.store.Store.{IsStore}

-- ws are the writes so far, and s is a content that has what they left.
module _ (ws : List Event) (s : Content) (is : IsStore ws s) where
  -- The event of a new CronJob is the same by the writes as by the content.
  pub new_cron_is : (d : CronJobDraft) (now : ℕ) → cron_created ws d now ≡ cron_added (new_cron s d now)
  new_cron_is d now = ap (λ u. cron_added (new_cron (record s { version = version ws; uids = u }) d now)) (sym is.uids)
      ∙ ap (λ v. cron_added (new_cron (record s { version = v }) d now)) (sym is.version)

  -- The event of a new Job is the same by the writes as by the content.
  pub new_job_is : (d : JobDraft) (now : ℕ) → job_created ws d now ≡ job_added (new_job s d now)
  new_job_is d now = ap (λ u. job_added (new_job (record s { version = version ws; uids = u }) d now)) (sym is.uids)
      ∙ ap (λ v. job_added (new_job (record s { version = v }) d now)) (sym is.version)

  -- The event of a CronJob's update is the same by the writes as by the content.
  pub updated_cron_is : (d : CronJobDraft) (c : CronJob) → cron_updated ws d c ≡ cron_modified (updated_cron s d c)
  updated_cron_is d c = ap (λ v. cron_modified (updated_cron (record s { version = v }) d c)) (sym is.version)

  -- The event of a setting of a CronJob's status is the same by the writes as by the content.
  pub status_is : (status : CronStatus) (c : CronJob) → status_set ws status c ≡ cron_modified (with_status s status c)
  status_is status c = ap (λ v. cron_modified (with_status (record s { version = v }) status c)) (sym is.version)

  -- The event of a CronJob's deletion is the same by the writes as by the content.
  pub last_cron_is : (c : CronJob) → cron_deleted ws c ≡ cron_gone (last_cron s c)
  last_cron_is c = ap (λ v. cron_gone (last_cron (record s { version = v }) c)) (sym is.version)

  -- The event of a Job's update is the same by the writes as by the content.
  pub updated_job_is : (d : JobDraft) (j : Job) → job_updated ws d j ≡ job_modified (updated_job s d j)
  updated_job_is d j = ap (λ v. job_modified (updated_job (record s { version = v }) d j)) (sym is.version)

  -- The event of a Job's end is the same by the writes as by the content.
  pub ended_job_is : (o : Outcome) (now : ℕ) (j : Job) → job_ended ws o now j ≡ job_modified (ended_job s o now j)
  ended_job_is o now j = ap (λ v. job_modified (ended_job (record s { version = v }) o now j)) (sym is.version)

  -- The event of a Job's deletion is the same by the writes as by the content.
  pub last_job_is : (j : Job) → job_deleted ws j ≡ job_gone (last_job s j)
  last_job_is j = ap (λ v. job_gone (last_job (record s { version = v }) j)) (sym is.version)

-- ---- one write more

-- m is a map that has at each key what now says of it.
module _ {X : Type 0} (m : map.FinMap place_cmp X) (now : Place → Option X) (is : (k : Place) → map.get m k ≡ now k)
  where
    -- With a value put at k, the map has it there, and at other keys what now says.
    put_is : (k : Place) (v : X) (q : Place) (b : Bool) → map.get (map.insert m k v) q ≡ cond b (Some v) (map.get m q)
        → map.get (map.insert m k v) q ≡ cond b (Some v) (now q)
    put_is k v q b e = e ∙ ap (cond b (Some v)) (is q)

    -- With k taken out, the map has nothing there, and at other keys what now says.
    removal_is : (k q : Place) (b : Bool) → map.get (map.remove m k) q ≡ cond b None (map.get m q)
        → map.get (map.remove m k) q ≡ cond b None (now q)
    removal_is k q b e = e ∙ ap (cond b None) (is q)

-- Before any write the empty content has what no writes leave.
pub begins : IsStore [] nothing
begins = record {
  version = refl;
  uids = refl;
  crons = λ k. map.get-empty place_cmp k;
  jobs = λ k. map.get-empty place_cmp k;
}

-- A content that has what the writes left has, after one write more, what all of them leave.
pub one_more : (ws : List Event) (s : Content) (w : Event) → IsStore ws s → IsStore (w ∷ ws) (after s w)
one_more ws s (Added (Kind.Cron c)) is = record {
  version = (let e = is.version in omega (arith, e));
  uids = ap (λ n. n + 1) is.uids;
  crons = λ k. put_is s.crons (current_cron ws) is.crons c.key c k _ (get_put s.crons c.key c k);
  jobs = is.jobs;
}
one_more ws s (Modified (Kind.Cron c)) is = record {
  version = (let e = is.version in omega (arith, e));
  uids = is.uids;
  crons = λ k. put_is s.crons (current_cron ws) is.crons c.key c k _ (get_put s.crons c.key c k);
  jobs = is.jobs;
}
one_more ws s (Deleted (Kind.Cron c)) is = record {
  version = (let e = is.version in omega (arith, e));
  uids = is.uids;
  crons = λ k. removal_is s.crons (current_cron ws) is.crons c.key k _ (get_off s.crons c.key k);
  jobs = is.jobs;
}
one_more ws s (Added (Kind.Job j)) is = record {
  version = (let e = is.version in omega (arith, e));
  uids = ap (λ n. n + 1) is.uids;
  crons = is.crons;
  jobs = λ k. put_is s.jobs (current_job ws) is.jobs j.key j k _ (get_put s.jobs j.key j k);
}
one_more ws s (Modified (Kind.Job j)) is = record {
  version = (let e = is.version in omega (arith, e));
  uids = is.uids;
  crons = is.crons;
  jobs = λ k. put_is s.jobs (current_job ws) is.jobs j.key j k _ (get_put s.jobs j.key j k);
}
one_more ws s (Deleted (Kind.Job j)) is = record {
  version = (let e = is.version in omega (arith, e));
  uids = is.uids;
  crons = is.crons;
  jobs = λ k. removal_is s.jobs (current_job ws) is.jobs j.key k _ (get_off s.jobs j.key k);
}
