-- note_unknown, its loop over the members: the warnings so far and those of the members to come
-- are the same at each turn.
use Rattle.std.proofs.Common.{◌≡◌, ◌++◌}
use Rattle.serde_json.specs.View.{members_view}
use Rattle.cj_manifest.specs.Warnings.{unknown}
use Rattle.cj_manifest.proofs.warned.note_unknown.Given as goal

abbrev pub invariant-loop-key : goal.invariant-loop-key
invariant-loop-key l =
    l.warnings.items ++ unknown l.level (members_view l.key-iterator)
    ≡ l.initial.warnings.items ++ unknown l.level (members_view l.initial.key-iterator)
