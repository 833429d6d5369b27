-- add_members: its loop's invariant, with one member more added.
use Rattle.std.proofs.Common.{◌∙◌}
use Rattle.serde_json.specs.View.{members_view}
use Rattle.cj_zone.specs.Table.{zones_of}
use Rattle.cj_scenario.proofs.Names.{leads_entry}
use Rattle.cj_scenario.proofs.zones.add_members.Goals as goal

pub loop-name-preserved : goal.loop-name-preserved
loop-name-preserved c = record {
  leads =
      leads_entry (zones_of c.args.table.now) (members_view c.args.members.now.entries) (zones_of c.loop-name.table)
      (zones_of c.add_member.new.table)
      c.loop-name.name-iterator c.next.new.self c.in-Some.name.now c.in-Some.member.now c.as_str.result.now
      c.in-Some.ensures.steps c.as_str.ensures.value c.loop-name.invariant.leads c.in_ok-add_member.ensures.ok;
  local = c.in_ok-add_member.ensures.local ∙ c.loop-name.invariant.local;
}
