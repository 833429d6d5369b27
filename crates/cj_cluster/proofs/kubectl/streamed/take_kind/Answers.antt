-- take_kind: behind the text the kind is known.
use Rattle.std.proofs.Common.{rules, ◌≡◌, Some, refl, string_bytes}
use Rattle.serde_json.specs.Data.{string}
use Rattle.serde_json.specs.View.{view}
use Rattle.serde_json.specs.declared.value.Value.{the_lemmas}
use Rattle.cj_zone.specs.Table.{zones_of}
use Rattle.cj_cluster.specs.declared.kubectl.streamed.Said.{Said}
use Rattle.cj_cluster.proofs.KubectlLemmas.StreamLemmas.{kind_taken}
use Rattle.cj_cluster.proofs.kubectl.streamed.take_kind.Goals as goal

pub returns-clause-ok : goal.returns-clause-ok
returns-clause-ok c =
    let d = view c.in_ok-value.value in
    let kind = c.in-String.kind in
    let said : Said = record { kind = Some kind; listed = c.args.said.listed } in
    let seen : d ≡ string (string_bytes kind) = search (rules, the_lemmas) in
    kind_taken (zones_of c.args.zones.now) c.args.reader.now c.read_value.new.reader c.args.said said d kind
    c.in_ok-value.ensures.ok seen refl refl
