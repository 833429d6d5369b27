-- zone_lines: its loop; at each turn the lines so far and those of the rest are all.
use Rattle.std.proofs.Common.{◌≡◌, ◌++◌, drop, string_bytes}
use Rattle.cj_zone.specs.Table.{zones_of}
use Rattle.cj_upcoming.specs.Zones.{zone_lines}
use Rattle.cj_upcoming.proofs.zone_changes.zone_lines.Given as goal

abbrev pub invariant-loop-name : goal.invariant-loop-name
invariant-loop-name l =
    string_bytes l.text ++ zone_lines (zones_of l.zones) l.window (drop l.name-index l.names)
    ≡ zone_lines (zones_of l.zones) l.window l.names
