-- stream_members: its loop; at each turn that is known which the members read say.
use Rattle.std.proofs.Common.{length}
use Rattle.cj_zone.specs.Table.{zones_of}
use Rattle.cj_cluster.proofs.KubectlLemmas.StreamLemmas.{Tells}
use Rattle.cj_cluster.proofs.kubectl.streamed.stream_members.Given as goal

abbrev pub invariant-members : goal.invariant-members
invariant-members l = record {
  tells : Tells (zones_of l.zones) l.initial.reader l.said l.reader;
}

abbrev pub decreases-members : goal.decreases-members
decreases-members l = length l.reader
