-- told_of: what steps_of requires, that the steps nest no deeper than JSON may.
use Rattle.std.proofs.Common.{codes, sym}
use Rattle.serde_json.specs.Read.{max_depth}
use Rattle.serde_json.specs.View.{items_view, view}
use Rattle.cj_scenario.proofs.Depth.{depth-present}
use Rattle.cj_script.proofs.Deep.{depth_items}
use Rattle.cj_script.proofs.read.told_of.Goals as goal

pub steps_of-requires : goal.steps_of-requires
steps_of-requires c =
    let list = c.in-Some-present.list in
    record {
      flat = depth_items (view list.now) (items_view c.in-Some-as_array.items.now.items) max_depth
          (sym c.in-Some-as_array.ensures)
          (depth-present (codes "steps") (view c.args.value.now) (view list.now) max_depth c.requires.flat
          (sym c.in-Some-present.ensures));
    }
