-- The objects of a cluster stay as they have to be: each CronJob at its key, each Job with its times.
use Rattle.std.proofs.Common.{◌≡◌, ◌≢◌, ◌⊎◌, inl, inr, Bool, true, false, cond, Option, Some, None, is_some, refl, sym, ap, ◌∙◌, subst}
use Rattle.std.specs.FinMap as map
use Rattle.std.specs.Ordering.{eq_by_cmp}
use Rattle.cj_types.specs.Keys.{Place, place_cmp}
use Rattle.cj_types.specs.declared.job.Job.{Job}
use Rattle.cj_table.proofs.Apart.{places_apart}
use Rattle.cj_table.proofs.Order.{places_total}
use Rattle.cj_table.proofs.Puts.{remove-insert}
use Rattle.cj_cluster.specs.declared.cron.ClusterCron.{ClusterCron}
use Rattle.cj_cluster.specs.declared.times.JobTimes.{JobTimes}
use Rattle.cj_cluster.specs.Content.{Content, IsSound, nothing, with_cron, with_job}

-- Something is there after a choice in both places, where it was there in both before.
both_there : {X Y : Type 0} (t : Bool) (x : X) (y : Y) (a : Option X) (b : Option Y) → is_some a ≡ is_some b
    → is_some (cond t (Some x) a) ≡ is_some (cond t (Some y) b)
both_there true x y a b h = refl
both_there false x y a b h = h

-- For add_job: with one Job more and its times at one key, each Job still has its times.
pub sound_job : (c : Content) (job : Job) (times : JobTimes) → IsSound c → IsSound (with_job job times c)
sound_job c job times s = record {
  crons_keyed = s.crons_keyed;
  timed = λ q. ap is_some (map.get-insert places_total c.times job.key times q)
      ∙ both_there (eq_by_cmp place_cmp q job.key) times job (map.get c.times q) (map.get c.jobs q) (s.timed q)
      ∙ sym (ap is_some (map.get-insert places_total c.jobs job.key job q));
}

-- For sound_cron: what is found after a CronJob was put at its key stands at its own key.
keyed_by : (c : Content) (cron found : ClusterCron) (q : Place) → IsSound c
    → ((q ≡ cron.cron.key) × (cron ≡ found)) ⊎ ((q ≢ cron.cron.key) × (map.get c.crons q ≡ Some found))
    → found.cron.key ≡ q
keyed_by c cron found q s (inl here) = ap (λ x. x.cron.key) (sym here.1) ∙ sym here.0
keyed_by c cron found q s (inr there) = s.crons_keyed q found there.1

-- For add_cron: with one CronJob more at its key, each CronJob stands at its own.
pub sound_cron : (c : Content) (cron : ClusterCron) → IsSound c → IsSound (with_cron cron c)
sound_cron c cron s = record {
  crons_keyed = λ q found h.
      keyed_by c cron found q s ((places_apart ClusterCron).after_put c.crons cron.cron.key q cron found h);
  timed = s.timed;
}

-- For sound_nothing: an empty map has nothing at any key.
none_at : {X : Type 0} (m : map.FinMap place_cmp X) (k : Place) → m ≡ map.empty → map.get m k ≡ None
none_at m k e =
    subst (λ (n : map.FinMap place_cmp _). map.get n k ≡ None) (sym e) (map.get-empty place_cmp k)

-- For sound_nothing: no CronJob is found in an empty map.
nowhere : (k : Place) (cron : ClusterCron) → map.get nothing.crons k ≡ Some cron → cron.cron.key ≡ k
nowhere k cron h = absurd (cc (h, none_at nothing.crons k refl))

-- For sound_nothing: neither a Job nor its times are found in an empty map.
both_nowhere : (k : Place) → is_some (map.get nothing.times k) ≡ is_some (map.get nothing.jobs k)
both_nowhere k = ap is_some (none_at nothing.times k refl) ∙ sym (ap is_some (none_at nothing.jobs k refl))

-- For new: an empty cluster is as it has to be.
pub sound_nothing : IsSound nothing
sound_nothing = record { crons_keyed = λ k cron h. nowhere k cron h; timed = λ k. both_nowhere k }

-- Nothing is there where the test says so.
none_there : {X : Type 0} (o : Option X) → is_some o ≡ false → o ≡ None
none_there None h = refl
none_there (Some x) h = absurd (cc h)

-- For add_job: times that were put at the key of a Job that isn't there go again without a trace.
pub times_undone : (c : Content) (k : Place) (times : JobTimes) → IsSound c → map.get c.jobs k ≡ None
    → map.remove (map.insert c.times k times) k ≡ c.times
times_undone c k times s none =
    remove-insert c.times k times (none_there (map.get c.times k) (s.timed k ∙ ap is_some none))

-- what stands in the parts of a cluster
abbrev pub content : map.FinMap place_cmp ClusterCron → map.FinMap place_cmp Job → map.FinMap place_cmp JobTimes
    → Content
content crons jobs times = record { crons = crons; jobs = jobs; times = times }

-- For add_job: the parts with one Job more are sound.
pub parts_with_job : (crons : map.FinMap place_cmp ClusterCron) (jobs more : map.FinMap place_cmp Job)
    (times with : map.FinMap place_cmp JobTimes) (job : Job) (t : JobTimes) → IsSound (content crons jobs times)
    → more ≡ map.insert jobs job.key job → with ≡ map.insert times job.key t → IsSound (content crons more with)
parts_with_job crons jobs more times with job t s m w = rw (m, w) (sound_job (content crons jobs times) job t s)

-- For add_cron: the parts with one CronJob more are sound.
pub parts_with_cron : (crons more : map.FinMap place_cmp ClusterCron) (jobs : map.FinMap place_cmp Job)
    (times : map.FinMap place_cmp JobTimes) (cron : ClusterCron) → IsSound (content crons jobs times)
    → more ≡ map.insert crons cron.cron.key cron → IsSound (content more jobs times)
parts_with_cron crons more jobs times cron s m = rw m (sound_cron (content crons jobs times) cron s)

-- For add_job: the parts are as they were, once the times of a Job that could not be added are taken out.
pub parts_undone : (crons : map.FinMap place_cmp ClusterCron) (jobs same : map.FinMap place_cmp Job)
    (times with without : map.FinMap place_cmp JobTimes) (k : Place) (t : JobTimes)
    → IsSound (content crons jobs times)
    → map.get jobs k ≡ None → with ≡ map.insert times k t → without ≡ map.remove with k → same ≡ jobs
    → content crons same without ≡ content crons jobs times
parts_undone crons jobs same times with without k t s none w out j =
    let back : without ≡ times = rw (out, w) (times_undone (content crons jobs times) k t s none) in
    rw (back, j) refl

-- For new: parts that are empty are sound.
pub sound_parts : (crons : map.FinMap place_cmp ClusterCron) (jobs : map.FinMap place_cmp Job)
    (times : map.FinMap place_cmp JobTimes) → crons ≡ map.empty → jobs ≡ map.empty → times ≡ map.empty
    → IsSound (content crons jobs times)
sound_parts crons jobs times c j t = rw (c, j, t) sound_nothing
