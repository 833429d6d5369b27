-- add_rules: its loop; at each turn the rules lead to the zones so far, and the local zone stays.
use Rattle.std.proofs.Common.{◌≡◌, drop}
use Rattle.cj_zone.specs.Table.{local_zone, zones_of}
use Rattle.cj_io.proofs.ZoneFilesLemmas.Rules.{Leads, texts}
use Rattle.cj_io.proofs.zone_files.table.add_rules.Given as goal

abbrev pub invariant-loop-rule : goal.invariant-loop-rule
invariant-loop-rule l = record {
  leads : Leads (zones_of l.initial.table) (texts l.rules) (zones_of l.table) (texts (drop l.rule-index l.rules));
  local : local_zone l.table ≡ local_zone l.initial.table;
}
