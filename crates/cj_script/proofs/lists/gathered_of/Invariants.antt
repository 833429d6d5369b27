-- gathered_of: its loop; at each turn what is gathered, with the values to come, is the answer.
use Rattle.std.proofs.Common.{◌≡◌, drop}
use Rattle.serde_json.specs.View.{items_view}
use Rattle.cj_script.specs.Lists.{all_of, joined}
use Rattle.cj_script.proofs.lists.gathered_of.Given as goal

abbrev pub invariant-loop-value : goal.invariant-loop-value
invariant-loop-value g l =
    joined l.gathered.items.items l.gathered.fault
    (all_of (g.R.Reads.said l.reader) (items_view (drop l.value-index l.value-items)))
    ≡ all_of (g.R.Reads.said l.reader) (items_view l.value-items)
