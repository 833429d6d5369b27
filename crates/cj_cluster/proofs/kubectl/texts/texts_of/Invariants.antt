-- texts_of: its loop; at each turn the texts so far, with those of the items to come, are those of all, and the items
-- to come nest no deeper than JSON is read.
use Rattle.std.proofs.Common.{◌≤◌, drop, option_map}
use Rattle.serde_json.specs.Data.{items_depth}
use Rattle.serde_json.specs.Read.{max_depth}
use Rattle.serde_json.specs.View.{items_view}
use Rattle.cj_cluster.proofs.KubectlLemmas.TextLemmas.{Begins}
use Rattle.cj_cluster.proofs.kubectl.texts.texts_of.Given as goal

abbrev pub invariant-loop-item : goal.invariant-loop-item
invariant-loop-item l = record {
  begins : Begins (record {
    kind = option_map (λ s. s.now) l.kind;
    version = option_map (λ s. s.now) l.version;
  }) (items_view l.items) l.texts.items (items_view (drop l.item-index l.items));
  flat : items_depth (items_view (drop l.item-index l.items)) ≤ max_depth;
}
