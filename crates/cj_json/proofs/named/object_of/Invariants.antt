-- object_of: the values to come give what all give from nothing.
use Rattle.std.proofs.Common.{◌≡◌}
use Rattle.std.specs.Array.Iter.{array_into_iter_items}
use Rattle.serde_json.specs.Data.{no_members}
use Rattle.serde_json.specs.View.{members_view}
use Rattle.cj_json.specs.Named.{put_all}
use Rattle.cj_json.proofs.named.object_of.Given as goal

abbrev pub invariant-loop-value : goal.invariant-loop-value
invariant-loop-value g l =
    put_all l.names.rest.now (array_into_iter_items l.value-iterator) (members_view l.map.entries)
    ≡ put_all l.fn.names l.fn.values no_members
