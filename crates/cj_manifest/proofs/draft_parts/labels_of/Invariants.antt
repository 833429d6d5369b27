-- labels_of, its loop over the members: the labels so far, with the members to come put in, are
-- those of all members.
use Rattle.std.proofs.Common.{◌≡◌, []}
use Rattle.serde_json.specs.View.{members_view}
use Rattle.cj_manifest.specs.Drafts.{labels_onto}
use Rattle.cj_manifest.proofs.draft_parts.labels_of.Given as goal

abbrev pub invariant-loop-key : goal.invariant-loop-key
invariant-loop-key l = labels_onto l.labels (members_view l.key-iterator)
    ≡ labels_onto [] (members_view l.members.entries)
