-- runs_of: at each turn the runs so far, with the items left, are the runs of all items.
use Rattle.std.proofs.Common.{◌≡◌, [], drop}
use Rattle.serde_json.specs.View.{items_view}
use Rattle.cj_script.specs.simulation.RunLists.{with_runs}
use Rattle.cj_script.proofs.simulation.run_lists.runs_of.Given as goal

abbrev pub invariant-loop-item : goal.invariant-loop-item
invariant-loop-item l = with_runs l.runs.items (items_view (drop l.item-index l.item-items))
    ≡ with_runs [] (items_view l.item-items)
