-- zone_values: its loop; at each turn the values so far and those of the rest are all.
use Rattle.std.proofs.Common.{◌≡◌, ◌++◌, drop, map}
use Rattle.serde_json.specs.View.{view}
use Rattle.cj_zone.specs.Table.{zones_of}
use Rattle.cj_upcoming.specs.json.Changes.{zone_changes}
use Rattle.cj_upcoming.proofs.json.changes.zone_values.Given as goal

abbrev pub invariant-loop-name : goal.invariant-loop-name
invariant-loop-name l =
    map view l.values.items ++ zone_changes (zones_of l.zones) l.window (drop l.name-index l.names)
    ≡ zone_changes (zones_of l.zones) l.window l.names
