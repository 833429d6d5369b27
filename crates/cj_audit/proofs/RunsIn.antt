-- The Jobs of a CronJob that are found are all that it has.
use Rattle.std.proofs.Common.{◌≡◌, ◌⊎◌, inl, inr, Bool, true, false, cond, List, [], ◌∷◌, Option, Some, None, refl, sym, ap, ◌∙◌, subst}
use Rattle.std.specs.List.Sorted.{IsPermutation}
use Rattle.std.proofs.lemmas.List.Sorted.{All-permutation, Contains-permutation}
use Rattle.std.specs.FinMap as map
use Rattle.cj_types.specs.Keys.{place_cmp}
use Rattle.cj_types.specs.declared.job.Job.{Job}
use Rattle.cj_types.specs.Owners.{controller_of}
use Rattle.cj_table.specs.jobs.Owners.{is_job_of, owned_by}
use Rattle.cj_cluster.specs.declared.cron.ClusterCron.{ClusterCron}
use Rattle.cj_cluster.specs.declared.times.JobTimes.{JobTimes}
use Rattle.cj_cluster.specs.Content.{Content, has_uid, is_of}
use Rattle.cj_audit.specs.declared.run.Run.{Run}
use Rattle.cj_audit.specs.Runs.{AreRunsOf, IsRunOf, run_at, run_unless, run_with, runs_in}
use Rattle.cj_audit.proofs.Members.{IsIn, all_in, contains_in, in_contains, in_either, in_filter, filter_in, in_left, in_right}
use Rattle.cj_audit.proofs.PairsIn.{first_of}

-- a Job with its times, which the CronJob controls
abbrev RunOf : map.FinMap place_cmp JobTimes → ClusterCron → Run → Job → Type 0
RunOf times c run job = (run.job ≡ job) × (is_of c job ≡ true) × (map.get times job.key ≡ Some run.times)

-- For run_in: what stands at one Job is that Job with its times.
at_job : (job : Job) (run : Run) (b : Bool) (o : Option JobTimes) → IsIn run (cond b (run_with job o) [])
    → (run.job ≡ job) × (b ≡ true) × (o ≡ Some run.times) × (run.times.is_manual ≡ false)
at_job job run true (Some times) h = by times.is_manual refl h
  where
    by : (m : Bool) → times.is_manual ≡ m → IsIn run (run_unless m job times)
        → (run.job ≡ job) × (true ≡ true) × (Some times ≡ Some run.times) × (run.times.is_manual ≡ false)
    by true e k = absurd k
    by false e (inl is) =
        (ap (λ r. r.job) is, refl, ap Some (sym (ap (λ r. r.times) is)), ap (λ (r : Run). r.times.is_manual) is ∙ e)
    by false e (inr none) = absurd none
at_job job run true None h = absurd h
at_job job run false o h = absurd h

-- What is found is a Job of the list with its times, which the CronJob controls.
run_in : (times : map.FinMap place_cmp JobTimes) (c : ClusterCron) (jobs : List Job) (run : Run)
    → IsIn run (runs_in times c jobs)
    → IsIn run.job jobs × (is_of c run.job ≡ true) × (map.get times run.job.key ≡ Some run.times)
    × (run.times.is_manual ≡ false)
run_in times c [] run h = absurd h
run_in times c (job ∷ jobs) run h =
    by (λ rest. run_in times c jobs run rest) (in_either run (run_at times c job) (runs_in times c jobs) h)
  where
    by : (IsIn run (runs_in times c jobs)
        → IsIn run.job jobs × (is_of c run.job ≡ true) × (map.get times run.job.key ≡ Some run.times)
        × (run.times.is_manual ≡ false))
        → IsIn run (run_at times c job) ⊎ IsIn run (runs_in times c jobs)
        → IsIn run.job (job ∷ jobs) × (is_of c run.job ≡ true) × (map.get times run.job.key ≡ Some run.times)
        × (run.times.is_manual ≡ false)
    by more (inl here) =
        let at = at_job job run (is_of c job) (map.get times job.key) here in (
          inl at.0,
          ap (is_of c) at.0 ∙ at.1,
          ap (λ (x : Job). map.get times x.key) at.0 ∙ at.2,
          at.3,
        )
    by more (inr rest) = let k = more rest in (inr k.0, k.1, k.2, k.3)

-- For in_runs: a Job that the CronJob controls, and that nobody made by hand, stands where it has times.
stands : (job : Job) (times : JobTimes) (b : Bool) (o : Option JobTimes) → b ≡ true → o ≡ Some times
    → times.is_manual ≡ false → IsIn (record { job = job; times = times }) (cond b (run_with job o) [])
stands job times b o e f m = rw (e, f) (by times.is_manual m)
  where
    by : (x : Bool) → x ≡ false → IsIn (record { job = job; times = times }) (run_unless x job times)
    by true h = absurd (cc h)
    by false h = inl refl

-- Each such Job of the list is found with its times.
in_runs : (times : map.FinMap place_cmp JobTimes) (c : ClusterCron) (jobs : List Job) (run : Run) → IsIn run.job jobs
    → is_of c run.job ≡ true → map.get times run.job.key ≡ Some run.times → run.times.is_manual ≡ false
    → IsIn run (runs_in times c jobs)
in_runs times c [] run h owned timed made = absurd h
in_runs times c (job ∷ jobs) run (inl is) owned timed made =
    let here = stands run.job run.times (is_of c run.job) (map.get times run.job.key) owned timed made in
    in_left run (run_at times c job) (runs_in times c jobs) (subst (λ x. IsIn run (run_at times c x)) is here)
in_runs times c (job ∷ jobs) run (inr rest) owned timed made =
    in_right run (run_at times c job) (runs_in times c jobs) (in_runs times c jobs run rest owned timed made)

-- A Job that the CronJob controls is one of its key.
pub of_key : (c : ClusterCron) (job : Job) → is_of c job ≡ true → is_job_of c.cron.key job ≡ true
of_key c job h = first_of (is_job_of c.cron.key job) (has_uid c.uid (controller_of job.owners)) h

-- What is found among the Jobs of the CronJob's key are its Jobs.
pub runs_are : (content : Content) (c : ClusterCron)
    → AreRunsOf content c (runs_in content.times c (owned_by content.jobs c.cron.key))
runs_are content c = record {
  each = all_in (IsRunOf content c) (runs_in content.times c (owned_by content.jobs c.cron.key)) (λ run h.
      let k = run_in content.times c (owned_by content.jobs c.cron.key) run h in
      let there = in_filter (is_job_of c.cron.key) run.job (map.values content.jobs) k.0 in
      record { there = in_contains run.job (map.values content.jobs) there.0; timed = k.2; owned = k.1; made = k.3 });
  all = λ run h. in_contains run (runs_in content.times c (owned_by content.jobs c.cron.key))
      (in_runs content.times c (owned_by content.jobs c.cron.key) run
      (filter_in (is_job_of c.cron.key) run.job (map.values content.jobs)
      (contains_in run.job (map.values content.jobs) h.there) (of_key c run.job h.owned)) h.owned h.timed h.made);
}

-- They are so in any order.
pub runs_moved : (content : Content) (c : ClusterCron) (xs ys : List Run) → IsPermutation xs ys
    → AreRunsOf content c xs → AreRunsOf content c ys
runs_moved content c xs ys moved are = record {
  each = All-permutation (IsRunOf content c) xs ys moved are.each;
  all = λ run h. Contains-permutation xs ys run moved (are.all run h);
}
