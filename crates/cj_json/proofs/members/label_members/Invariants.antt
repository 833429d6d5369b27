-- label_members, its loop over the labels: the members so far, with the labels to come put in,
-- are those of all labels.
use Rattle.std.proofs.Common.{◌≡◌, drop}
use Rattle.serde_json.specs.Data.{no_members}
use Rattle.serde_json.specs.View.{members_view}
use Rattle.cj_json.specs.Parts.{label_members}
use Rattle.cj_json.proofs.members.label_members.Given as goal

abbrev pub invariant-loop-label : goal.invariant-loop-label
invariant-loop-label l = label_members (members_view l.members.entries) (drop l.label-index l.labels)
    ≡ label_members no_members l.labels
