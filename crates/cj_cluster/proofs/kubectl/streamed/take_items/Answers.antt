-- take_items: behind the array it is known which objects the items are.
use Rattle.std.proofs.Common.{◌≡◌, ◌∷◌, codes, Some, refl, sym, subst, arith}
use Rattle.json.specs.Token.{Token}
use Rattle.cj_zone.specs.Table.{zones_of}
use Rattle.cj_cluster.specs.declared.kubectl.streamed.Said.{Said}
use Rattle.cj_cluster.specs.kubectl.Streamed.{TakesMember}
use Rattle.cj_cluster.proofs.KubectlLemmas.StreamLemmas.{items_taken}
use Rattle.cj_cluster.proofs.kubectl.streamed.take_items.Goals as goal

pub returns-clause-ok : goal.returns-clause-ok
returns-clause-ok c =
    let zones = zones_of c.args.zones.now in
    let ts = c.next.new.self in
    let end = c.stream_items.new.reader in
    let list = c.in_ok-list.list in
    let said : Said = record { kind = c.args.said.kind; listed = Some list } in
    let first : c.args.reader.now ≡ Token.begin_array ∷ ts = grind arith in
    subst (λ us. TakesMember zones 126 (codes "items") us end c.args.said said) (sym first)
    (items_taken zones ts end c.args.said said list c.in_ok-list.ensures.ok refl refl)
