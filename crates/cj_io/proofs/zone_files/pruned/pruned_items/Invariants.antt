-- pruned_items: the items read name the zones of those found.
use Rattle.std.proofs.Common.{◌≤◌, length}
use Rattle.cj_io.proofs.ZoneFilesLemmas.Pruned.{ItemsPruned}
use Rattle.cj_io.proofs.zone_files.pruned.pruned_items.Given as goal

abbrev pub invariant-items : goal.invariant-items
invariant-items l = record {
  pruned : ItemsPruned 125 l.initial.reader l.found.items l.reader;
  shorter : length l.reader ≤ length l.initial.reader;
}

abbrev pub decreases-items : goal.decreases-items
decreases-items l = length l.reader
