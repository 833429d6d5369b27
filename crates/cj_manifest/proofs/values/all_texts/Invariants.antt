-- all_texts, its loop over the members: all are texts just where all those to come are.
use Rattle.std.proofs.Common.{◌≡◌}
use Rattle.serde_json.specs.View.{members_view}
use Rattle.cj_manifest.specs.Values.{all_texts}
use Rattle.cj_manifest.proofs.values.all_texts.Given as goal

abbrev pub invariant-loop-key : goal.invariant-loop-key
invariant-loop-key l = all_texts (members_view l._key-iterator) ≡ all_texts (members_view l.members.entries)
