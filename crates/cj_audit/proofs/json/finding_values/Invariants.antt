-- finding_values: its loop; at each turn the values of the findings gone through stand there.
use Rattle.std.proofs.Common.{◌≡◌, map, take}
use Rattle.serde_json.specs.View.{view}
use Rattle.cj_audit.specs.Json.{finding_data}
use Rattle.cj_audit.proofs.json.finding_values.Given as goal

abbrev pub invariant-loop-finding : goal.invariant-loop-finding
invariant-loop-finding l = map view l.values.items ≡ map finding_data (take l.finding-index l.findings)
