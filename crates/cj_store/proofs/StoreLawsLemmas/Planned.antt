-- What a sound content keeps, and that what is planned on it is for it.
use Rattle.std.proofs.Common.{◌≡◌, ◌+◌, ◌≤◌, ℕ, inl, inr, Option, Some, refl, ap, subst, ◌∙◌, arith}
use Rattle.std.specs.Prelude.{Result, Ok, Err}
use Rattle.std.specs.FinMap as map
use Rattle.cj_base.specs.declared.refusal.Refusal.{Refusal}
use Rattle.cj_types.specs.Keys.{Place}
use Rattle.cj_types.specs.declared.cron.CronJob.{CronJob}
use Rattle.cj_types.specs.declared.cron.CronJobDraft.{CronJobDraft}
use Rattle.cj_types.specs.declared.cron.CronStatus.{CronStatus}
use Rattle.cj_types.specs.declared.policy.Outcome.{Outcome}
use Rattle.cj_types.specs.declared.job.Job.{Job}
use Rattle.cj_types.specs.declared.job.JobDraft.{JobDraft}
use Rattle.cj_types.specs.declared.event.Object.TheVariants as Of
use Rattle.cj_types.specs.declared.event.Event.{Event}
use Rattle.cj_types.specs.declared.event.Event.TheVariants.{Added, Modified, Deleted}
use Rattle.cj_store.specs.Content.{Content, IsSound, CronAt, JobAt, uid_at}
use Rattle.cj_store.specs.Equal.{same_cron_spec, same_job_spec}
use Rattle.cj_store.specs.Crons.{cron_created, cron_updated, status_set, cron_deleted}
use Rattle.cj_store.specs.Jobs.{job_created, job_made, job_updated, job_deleted, job_ended}
use Rattle.cj_store.specs.Change.{after, map_ok, IsNext, cron_added, cron_modified, cron_gone, job_added, job_modified, job_gone}
use Rattle.cj_store.proofs.Kept.{put_cron_sound, remove_cron_sound, put_job_sound, remove_job_sound, new_sound, standing_uid, updated_generation, cron_uid_there, job_uid_there, owners_there}
use Rattle.cj_store.specs.store_laws.Sound.{BeginsSound, StaysSound, PlansSound}
use Rattle.cj_store.proofs.StoreLawsLemmas.Answered.{cron_answers, job_answers}

-- For sound_laws, clause begins: the content before the first write is sound.
pub begins_sound : BeginsSound
begins_sound = new_sound map.empty map.empty refl refl

-- After a write of any kind that was planned on it a sound content is sound.
stays : (s : Content) (e : Event) → IsSound s → IsNext s e → IsSound (after s e)
stays s (Added (Of.Cron c)) sound p =
    let version : c.meta.version ≡ s.version + 1 = p.0 in
    let uid : c.meta.uid ≡ s.uids + 1 = p.1.1 in
    let generation : c.meta.generation ≡ 1 = p.1.2 in
    let counts : s.uids ≤ s.version = sound.counts in
    put_cron_sound s (map.insert s.crons c.key c) c.key c (s.uids + 1) sound refl refl (omega arith) version
    (omega arith) (omega arith) (omega arith) (inl uid)
stays s (Modified (Of.Cron c)) sound p =
    let counts : s.uids ≤ s.version = sound.counts in
    put_cron_sound s (map.insert s.crons c.key c) c.key c s.uids sound refl refl p.1.1 p.0 (omega arith)
    (standing_uid s (CronAt c.key) c.meta.uid sound.counted p.1.0) (omega arith) (inr p.1.0)
stays s (Deleted (Of.Cron c)) sound p = remove_cron_sound s (map.remove s.crons c.key) c.key sound refl
stays s (Added (Of.Job j)) sound p =
    let version : j.meta.version ≡ s.version + 1 = p.0 in
    let uid : j.meta.uid ≡ s.uids + 1 = p.1.1 in
    let generation : j.meta.generation ≡ 1 = p.1.2 in
    let counts : s.uids ≤ s.version = sound.counts in
    put_job_sound s (map.insert s.jobs j.key j) j.key j (s.uids + 1) sound refl refl (omega arith) version (omega arith)
    (omega arith) (omega arith) (inl uid)
stays s (Modified (Of.Job j)) sound p =
    let counts : s.uids ≤ s.version = sound.counts in
    put_job_sound s (map.insert s.jobs j.key j) j.key j s.uids sound refl refl p.1.2 p.0 (omega arith)
    (standing_uid s (JobAt j.key) j.meta.uid sound.counted p.1.1) (omega arith) (inr p.1.1)
stays s (Deleted (Of.Job j)) sound p = remove_job_sound s (map.remove s.jobs j.key) j.key sound refl

-- For sound_laws, clause stays: a sound content stays so after each write that was planned on it.
pub stays_sound : StaysSound
stays_sound = stays

-- ---- what is planned

-- a fact about the event of an answer
mapped : {X : Type 0} (f : X → Event) (r : Result X Refusal) (e : Event) (P : Event → Type 0) → map_ok f r ≡ Ok e
    → ((x : X) → r ≡ Ok x → P (f x)) → P e
mapped f (Ok x) e P h p = subst P (let is : f x ≡ e = cc h in is) (p x refl)
mapped f (Err y) e P h p = absurd (cc h)

-- where the CronJob of a key stands by its own key
own_uid : (s : Content) (k : Place) (c : CronJob) → IsSound s → map.get s.crons k ≡ Some c
    → uid_at s (CronAt c.key) ≡ Some c.meta.uid
own_uid s k c sound there = cron_uid_there s c.key c (ap (map.get s.crons) (sound.crons k c there).0 ∙ there)

-- The Job that stands at a key of a sound content stands at its own key.
own_job : (s : Content) (k : Place) (j : Job) → IsSound s → map.get s.jobs k ≡ Some j → map.get s.jobs j.key ≡ Some j
own_job s k j sound there = ap (map.get s.jobs) (sound.jobs k j there).0 ∙ there

-- What a create of a CronJob plans on a content is for that content.
created_for : (s : Content) (draft : CronJobDraft) (now : ℕ) (x : CronJob) → cron_created s draft now ≡ Ok x
    → IsNext s (cron_added x)
created_for s draft now x h =
    let a = (cron_answers s).created draft now x h in
    subst (λ (c : CronJob). IsNext s (cron_added c)) a.1 (refl, (a.0, refl, refl))

-- What an update of a CronJob plans on a sound content is for that content.
updated_for : (s : Content) (draft : CronJobDraft) (x : CronJob) → IsSound s → cron_updated s draft ≡ Ok x
    → IsNext s (cron_modified x)
updated_for s draft x sound h =
    let a = (cron_answers s).updated draft x h in
    let dated : a.old.meta.generation ≤ s.version = (sound.crons draft.key a.old a.there).1 in
    subst (λ (c : CronJob). IsNext s (cron_modified c)) a.is (
      refl,
      (
        own_uid s draft.key a.old sound a.there,
        updated_generation s draft.meta
            (same_cron_spec draft.spec a.old.spec) a.old.meta dated,
      ),
    )

-- What a setting of a CronJob's status plans on a sound content is for that content.
set_for : (s : Content) (k : Place) (u v : ℕ) (status : CronStatus) (x : CronJob) → IsSound s
    → status_set s k u v status ≡ Ok x → IsNext s (cron_modified x)
set_for s k u v status x sound h =
    let a = (cron_answers s).status k u v status x h in
    let dated : a.old.meta.generation ≤ s.version = (sound.crons k a.old a.there).1 in
    subst (λ (c : CronJob). IsNext s (cron_modified c)) a.is (refl, (own_uid s k a.old sound a.there, omega arith))

-- What a deletion of a CronJob plans on a sound content is for that content.
deleted_for : (s : Content) (k : Place) (x : CronJob) → IsSound s → cron_deleted s k ≡ Ok x → IsNext s (cron_gone x)
deleted_for s k x sound h =
    let a = (cron_answers s).deleted k x h in
    subst (λ (c : CronJob). IsNext s (cron_gone c)) a.is (refl, own_uid s k a.old sound a.there)

-- What a create of a Job plans on a content is for that content.
made_for : (s : Content) (draft : JobDraft) (now : ℕ) (x : Job) → job_made s draft now ≡ Ok x → IsNext s (job_added x)
made_for s draft now x h =
    let a = (job_answers s).made draft now x h in
    subst (λ (j : Job). IsNext s (job_added j)) a.1 (refl, (a.0, refl, refl))

-- What an update of a Job plans on a sound content is for that content.
job_updated_for : (s : Content) (draft : JobDraft) (x : Job) → IsSound s → job_updated s draft ≡ Ok x
    → IsNext s (job_modified x)
job_updated_for s draft x sound h =
    let a = (job_answers s).updated draft x h in
    let there = own_job s draft.key a.old sound a.there in
    let dated : a.old.meta.generation ≤ s.version = (sound.jobs draft.key a.old a.there).1 in
    subst (λ (j : Job). IsNext s (job_modified j)) a.is (
      refl,
      (
        owners_there s a.old.key a.old there,
        job_uid_there s a.old.key a.old there,
        updated_generation s draft.meta (same_job_spec draft.spec a.old.spec) a.old.meta dated,
      ),
    )

-- What a deletion of a Job plans on a sound content is for that content.
job_deleted_for : (s : Content) (k : Place) (u : Option ℕ) (x : Job) → IsSound s → job_deleted s k u ≡ Ok x
    → IsNext s (job_gone x)
job_deleted_for s k u x sound h =
    let a = (job_answers s).deleted k u x h in
    let there = own_job s k a.old sound a.there in
    subst (λ (j : Job). IsNext s (job_gone j)) a.is
    (refl, (owners_there s a.old.key a.old there, job_uid_there s a.old.key a.old there))

-- What an end of a Job plans on a sound content is for that content.
ended_for : (s : Content) (k : Place) (u : ℕ) (out : Outcome) (now : ℕ) (x : Job) → IsSound s
    → job_ended s k u out now ≡ Ok x → IsNext s (job_modified x)
ended_for s k u out now x sound h =
    let a = (job_answers s).ended k u out now x h in
    let there = own_job s k a.old sound a.there in
    let dated : a.old.meta.generation ≤ s.version = (sound.jobs k a.old a.there).1 in
    subst (λ (j : Job). IsNext s (job_modified j)) a.is
    (refl, (owners_there s a.old.key a.old there, job_uid_there s a.old.key a.old there, omega arith))

-- For sound_laws, clause planned: what any call plans on a sound content is for that content.
pub plans_sound : PlansSound
plans_sound s sound = record {
  cron_created = λ draft now e h. mapped cron_added (cron_created s draft now) e (IsNext s) h
      (λ x is. created_for s draft now x is);
  cron_updated = λ draft e h. mapped cron_modified (cron_updated s draft) e (IsNext s) h
      (λ x is. updated_for s draft x sound is);
  status_set = λ k u v status e h. mapped cron_modified (status_set s k u v status) e (IsNext s) h
      (λ x is. set_for s k u v status x sound is);
  cron_deleted = λ k e h. mapped cron_gone (cron_deleted s k) e (IsNext s) h (λ x is. deleted_for s k x sound is);
  job_created = λ draft now e h. mapped job_added (job_created s draft now) e (IsNext s) h
      (λ x is. made_for s draft now x ((job_answers s).created draft now x is).1);
  job_made = λ draft now e h. mapped job_added (job_made s draft now) e (IsNext s) h
      (λ x is. made_for s draft now x is);
  job_updated = λ draft e h. mapped job_modified (job_updated s draft) e (IsNext s) h
      (λ x is. job_updated_for s draft x sound is);
  job_deleted = λ k u e h. mapped job_gone (job_deleted s k u) e (IsNext s) h
      (λ x is. job_deleted_for s k u x sound is);
  job_ended = λ k u out now e h. mapped job_modified (job_ended s k u out now) e (IsNext s) h
      (λ x is. ended_for s k u out now x sound is);
}
