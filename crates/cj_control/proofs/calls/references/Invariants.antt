-- references: its loop; at each turn what was made is what the definition gives of those gone through.
use Rattle.std.proofs.Common.{◌≡◌, take, map}
use Rattle.serde_json.specs.View.{view}
use Rattle.cj_control.specs.SentFor.{reference_to}
use Rattle.cj_control.proofs.calls.references.Given as goal

abbrev pub invariant-loop-job : goal.invariant-loop-job
invariant-loop-job l = map view l.values.items ≡ map reference_to (take l.job-index l.jobs)
