-- list_of: its loop; at each turn the items lead to the list so far, the place is that of the last item read, and
-- the items to come nest no deeper than JSON is read.
use Rattle.std.proofs.Common.{◌≡◌, ◌≤◌, drop, option_map}
use Rattle.serde_json.specs.Data.{items_depth}
use Rattle.serde_json.specs.Read.{max_depth}
use Rattle.serde_json.specs.View.{items_view}
use Rattle.cj_zone.specs.Table.{zones_of}
use Rattle.cj_cluster.proofs.KubectlLemmas.ListLemmas.{Leads}
use Rattle.cj_cluster.proofs.kubectl.read.list_of.Given as goal

abbrev pub invariant-loop-item : goal.invariant-loop-item
invariant-loop-item l = record {
  leads : Leads (zones_of l.zones) (record {
    kind = option_map (λ s. s.now) l.kind;
    version = option_map (λ s. s.now) l.version;
  }) (items_view l.items) l.place l.list (items_view (drop l.item-index l.items));
  counted : l.place ≡ l.item-index;
  flat : items_depth (items_view (drop l.item-index l.items)) ≤ max_depth;
}
