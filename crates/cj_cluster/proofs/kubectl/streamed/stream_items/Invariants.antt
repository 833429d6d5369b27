-- stream_items: its loop; at each turn the items read make the list so far.
use Rattle.std.proofs.Common.{◌≤◌, length}
use Rattle.cj_zone.specs.Table.{zones_of}
use Rattle.cj_cluster.proofs.KubectlLemmas.StreamLemmas.{Streams}
use Rattle.cj_cluster.proofs.kubectl.streamed.stream_items.Given as goal

abbrev pub invariant-items : goal.invariant-items
invariant-items l = record {
  streams : Streams (zones_of l.zones) 125 l.initial.reader l.place l.list l.reader;
  shorter : length l.reader ≤ length l.initial.reader;
}

abbrev pub decreases-items : goal.decreases-items
decreases-items l = length l.reader
