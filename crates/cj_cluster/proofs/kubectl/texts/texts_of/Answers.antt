-- texts_of: its loop's invariant, with the text of the next item, and its clause ok behind the last one.
use Rattle.std.proofs.Common.{option_map, arith}
use Rattle.serde_json.specs.Read.{max_depth}
use Rattle.cj_cluster.specs.kubectl.Reading.{TypeMeta}
use Rattle.cj_cluster.proofs.KubectlLemmas.ListLemmas.{flat_at}
use Rattle.cj_cluster.proofs.KubectlLemmas.TextLemmas.{begins_end, begins_value}
use Rattle.cj_cluster.proofs.kubectl.texts.texts_of.Goals as goal

pub loop-item-preserved : goal.loop-item-preserved
loop-item-preserved c =
    let values = c.args.items.now in
    let i = c.loop-item.item-index in
    let x = c.item-item.result in
    let t : TypeMeta = record {
      kind = option_map (λ s. s.now) c.args.kind;
      version = option_map (λ s. s.now) c.args.version;
    } in
    record {
      begins = begins_value t values i x c.loop-item.texts.items c.in_ok-text.text c.push_text.new.texts.items
          c.loop-item-test.true c.item-item.is c.loop-item.invariant.begins c.in_ok-text.ensures.ok
          c.in_ok-push_text.ensures.ok;
      flat = (flat_at values i x max_depth c.loop-item-test.true c.item-item.is c.loop-item.invariant.flat).1;
    }

pub returns-clause-ok : goal.returns-clause-ok
returns-clause-ok c =
    let t : TypeMeta = record {
      kind = option_map (λ s. s.now) c.args.kind;
      version = option_map (λ s. s.now) c.args.version;
    } in
    begins_end t c.args.items.now c.loop-item.item-index c.loop-item.texts.items (omega arith)
    c.loop-item.invariant.begins
