-- owner_values, its loop over the owners: values are those written of the owners gone through.
use Rattle.std.proofs.Common.{◌≡◌, map, take}
use Rattle.serde_json.specs.View.{view}
use Rattle.cj_json.specs.Parts.{owner_data}
use Rattle.cj_json.proofs.meta.owner_values.Given as goal

abbrev pub invariant-loop-owner : goal.invariant-loop-owner
invariant-loop-owner l = map view l.values.items ≡ map owner_data (take l.owner-index l.owners)
