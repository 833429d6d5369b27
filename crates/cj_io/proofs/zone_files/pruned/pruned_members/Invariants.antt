-- pruned_members: the members read are alike those found.
use Rattle.std.proofs.Common.{length}
use Rattle.serde_json.specs.View.{members_view}
use Rattle.cj_io.proofs.ZoneFilesLemmas.Pruned.{MembersPruned}
use Rattle.cj_io.proofs.zone_files.pruned.pruned_members.Given as goal

abbrev pub invariant-members : goal.invariant-members
invariant-members l = MembersPruned 126 l.initial.reader (members_view l.found.entries) l.reader

abbrev pub decreases-members : goal.decreases-members
decreases-members l = length l.reader
