-- add_members: its loop; at each turn the members lead to the zones so far, and the local zone stays.
use Rattle.std.proofs.Common.{◌≡◌}
use Rattle.serde_json.specs.View.{members_view}
use Rattle.cj_zone.specs.Table.{local_zone, zones_of}
use Rattle.cj_scenario.proofs.Names.{LeadsOn}
use Rattle.cj_scenario.proofs.zones.add_members.Given as goal

abbrev pub invariant-loop-name : goal.invariant-loop-name
invariant-loop-name l = record {
  leads : LeadsOn (zones_of l.initial.table) (members_view l.members.entries) (zones_of l.table)
      (members_view l.name-iterator);
  local : local_zone l.table ≡ local_zone l.initial.table;
}
