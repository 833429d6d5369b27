-- job_values: its loop; at each turn the names of the Jobs gone through stand there.
use Rattle.std.proofs.Common.{◌≡◌, map, take}
use Rattle.serde_json.specs.Data.{string}
use Rattle.serde_json.specs.View.{view}
use Rattle.cj_why.proofs.reviews.plan_json.job_values.Given as goal

abbrev pub invariant-loop-job : goal.invariant-loop-job
invariant-loop-job l = map view l.values.items ≡ map (λ job. string job.key.name) (take l.job-index l.jobs)
