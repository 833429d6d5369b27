-- list_of: its loop's invariant, with the next item added.
use Rattle.std.proofs.Common.{◌+◌, ap, option_map}
use Rattle.serde_json.specs.Read.{max_depth}
use Rattle.cj_zone.specs.Table.{zones_of}
use Rattle.cj_cluster.specs.kubectl.Reading.{TypeMeta}
use Rattle.cj_cluster.proofs.KubectlLemmas.ListLemmas.{flat_at, leads_value}
use Rattle.cj_cluster.proofs.kubectl.read.list_of.Goals as goal

pub loop-item-preserved : goal.loop-item-preserved
loop-item-preserved c =
    let values = c.args.items.now in
    let i = c.loop-item.item-index in
    let x = c.item-item.result in
    let t : TypeMeta = record {
      kind = option_map (λ s. s.now) c.args.kind;
      version = option_map (λ s. s.now) c.args.version;
    } in
    record {
      leads =
          leads_value (zones_of c.args.zones.now) t values i c.loop-item.place x c.loop-item.list c.add_typed.new.list
          c.loop-item-test.true c.item-item.is c.loop-item.invariant.leads c.in_ok-add_typed.ensures.ok;
      counted = ap (λ n. n + 1) c.loop-item.invariant.counted;
      flat = (flat_at values i x max_depth c.loop-item-test.true c.item-item.is c.loop-item.invariant.flat).1;
    }
