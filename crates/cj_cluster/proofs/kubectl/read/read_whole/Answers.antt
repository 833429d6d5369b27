-- read_whole: its call of list_of, as the objects in the value nest no deeper than the value.
use Rattle.std.proofs.Common.{sym}
use Rattle.serde_json.specs.Read.{max_depth}
use Rattle.serde_json.specs.View.{items_view, view}
use Rattle.cj_cluster.proofs.KubectlLemmas.ListLemmas.{flat_items}
use Rattle.cj_cluster.proofs.kubectl.read.read_whole.Goals as goal

pub list_of-requires : goal.list_of-requires
list_of-requires c = record {
  flat = flat_items (view c.in_ok-value.value) (items_view c.in-Some.items.now) max_depth c.in_ok-value.ensures.flat
      (sym c.in-Some.ensures);
}
