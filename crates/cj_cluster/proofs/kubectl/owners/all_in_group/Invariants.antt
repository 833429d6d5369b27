-- all_in_group: its loop; at each turn what was made is what the definition gives of those gone through.
use Rattle.std.proofs.Common.{◌≡◌, take, map}
use Rattle.cj_cluster.specs.kubectl.Owners.{in_group}
use Rattle.cj_cluster.proofs.kubectl.owners.all_in_group.Given as goal

abbrev pub invariant-loop-owner : goal.invariant-loop-owner
invariant-loop-owner l = l.all ≡ map in_group (take l.owner-index l.owners)
