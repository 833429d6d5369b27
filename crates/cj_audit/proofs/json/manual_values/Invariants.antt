-- manual_values: its loop; at each turn the values so far, with those of the Jobs left, are those of all.
use Rattle.std.proofs.Common.{◌≡◌, ◌++◌, drop, map}
use Rattle.serde_json.specs.View.{view}
use Rattle.cj_audit.specs.Json.{manual_jobs}
use Rattle.cj_audit.proofs.json.manual_values.Given as goal

abbrev pub invariant-loop-job : goal.invariant-loop-job
invariant-loop-job l =
    map view l.values.items ++ manual_jobs l.cluster.times (drop l.job-index l.jobs)
    ≡ manual_jobs l.cluster.times l.jobs
