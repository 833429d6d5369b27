-- push_each: its loop; at each turn the values of the changes gone through stand behind those before.
use Rattle.std.proofs.Common.{◌≡◌, ◌++◌, map, take}
use Rattle.serde_json.specs.View.{view}
use Rattle.cj_upcoming.specs.json.Changes.{changes_data}
use Rattle.cj_upcoming.proofs.json.changes.push_each.Given as goal

abbrev pub invariant-loop-at : goal.invariant-loop-at
invariant-loop-at l =
    map view l.values.items ≡ map view l.fn.values.items ++ changes_data l.zone (take l.at-index l.changes)
