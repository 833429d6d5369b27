-- new: the invariant of the cluster with no object.
use Rattle.std.proofs.Common.{rules}
use Rattle.cj_cluster.proofs.Sound.{sound_parts}
use Rattle.cj_cluster.proofs.cluster.Cluster.new.Goals as goal

pub invariant_of-result : goal.invariant_of-result
invariant_of-result c = sound_parts _ _ _ (search rules) (search rules) (search rules)
