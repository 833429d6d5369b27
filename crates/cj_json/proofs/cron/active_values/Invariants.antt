-- active_values, its loop over the names: values are the references by the names gone through.
use Rattle.std.proofs.Common.{◌≡◌, map, take}
use Rattle.serde_json.specs.View.{view}
use Rattle.cj_json.specs.Objects.{active_data}
use Rattle.cj_json.proofs.cron.active_values.Given as goal

abbrev pub invariant-loop-name : goal.invariant-loop-name
invariant-loop-name l = map view l.values.items ≡ map (active_data l.namespace) (take l.name-index l.names)
