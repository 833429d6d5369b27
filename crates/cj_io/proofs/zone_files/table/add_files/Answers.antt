-- add_files: its loop's invariant, with one file more added or passed over.
use Rattle.std.proofs.Common.{◌∙◌}
use Rattle.cj_zone.specs.Table.{zones_of}
use Rattle.cj_io.proofs.ZoneFilesLemmas.Files.{leads_at}
use Rattle.cj_io.proofs.zone_files.table.add_files.Goals as goal

pub loop-file-preserved : goal.loop-file-preserved
loop-file-preserved c = record {
  leads =
      leads_at (zones_of c.args.table.now) (zones_of c.loop-file.table) (zones_of c.add_file.new.table) c.args.files.now
      c.loop-file.file-index c.file-item.result
      c.loop-file-test.true c.file-item.is c.loop-file.invariant.leads c.in_ok-add_file.ensures.ok;
  local = c.in_ok-add_file.ensures.local ∙ c.loop-file.invariant.local;
}
