-- edits_at: that list_of may be called, since the items of edits lie no deeper than the value.
use Rattle.std.proofs.Common.{codes, sym}
use Rattle.serde_json.specs.Read.{max_depth}
use Rattle.serde_json.specs.View.{items_view, view}
use Rattle.cj_scenario.proofs.Depth.{depth-present}
use Rattle.cj_script.proofs.Deep.{depth_items}
use Rattle.cj_script.proofs.simulation.edits.edits_at.Goals as goal

pub list_of-requires : goal.list_of-requires
list_of-requires c =
    let list = c.in-Some.list in
    record {
      flat = depth_items (view list.now) (items_view c.in-Some-as_array.values.now.items) max_depth
          (sym c.in-Some-as_array.ensures)
          (depth-present (codes "edits") (view c.args.value.now) (view list.now) max_depth c.requires.flat
          (sym c.in-Some.ensures));
    }
