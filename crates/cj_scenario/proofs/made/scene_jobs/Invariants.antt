-- scene_jobs: its loop; at each turn the Jobs made and those still to be made are all.
use Rattle.std.proofs.Common.{◌≡◌, ◌++◌, drop, map}
use Rattle.cj_scenario.specs.Made.{scene_job}
use Rattle.cj_scenario.proofs.made.scene_jobs.Given as goal

abbrev pub invariant-loop-job : goal.invariant-loop-job
invariant-loop-job l = l.jobs.items ++ map (scene_job l.cron) (drop l.job-index l.given)
    ≡ map (scene_job l.cron) l.given
