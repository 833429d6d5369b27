-- add_files: its loop; at each turn the files lead to the zones so far, and the local zone stays.
use Rattle.std.proofs.Common.{◌≡◌, drop}
use Rattle.cj_zone.specs.Table.{local_zone, zones_of}
use Rattle.cj_io.proofs.ZoneFilesLemmas.Files.{Leads}
use Rattle.cj_io.proofs.zone_files.table.add_files.Given as goal

abbrev pub invariant-loop-file : goal.invariant-loop-file
invariant-loop-file l = record {
  leads : Leads (zones_of l.initial.table) l.files (zones_of l.table) (drop l.file-index l.files);
  local : local_zone l.table ≡ local_zone l.initial.table;
}
