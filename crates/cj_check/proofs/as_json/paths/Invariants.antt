-- paths, its loop: the values are those of the warnings gone through.
use Rattle.std.proofs.Common.{◌≡◌, map, take}
use Rattle.serde_json.specs.Data.{string}
use Rattle.serde_json.specs.View.{view}
use Rattle.cj_check.proofs.as_json.paths.Given as goal

abbrev pub invariant-loop-warning : goal.invariant-loop-warning
invariant-loop-warning l = map view l.values.items ≡ map string (take l.warning-index l.warnings)
