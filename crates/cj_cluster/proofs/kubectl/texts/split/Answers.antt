-- split: its call of texts_of, as the items of the value nest no deeper than the value.
use Rattle.std.proofs.Common.{sym}
use Rattle.serde_json.specs.Read.{max_depth}
use Rattle.serde_json.specs.View.{items_view, view}
use Rattle.cj_cluster.proofs.KubectlLemmas.ListLemmas.{flat_list}
use Rattle.cj_cluster.proofs.kubectl.texts.split.Goals as goal

pub texts_of-requires : goal.texts_of-requires
texts_of-requires c = record {
  flat = flat_list (view c.args.value.now) (items_view c.in-Some.items.now) max_depth c.requires.flat
      (sym c.in-Some.ensures);
}
