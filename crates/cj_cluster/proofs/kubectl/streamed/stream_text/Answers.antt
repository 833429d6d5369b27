-- stream_text: the text is the list, and nothing more.
use Rattle.std.proofs.Common.{◌≡◌, ◌∷◌, [], subst, arith}
use Rattle.json.specs.Lex.{tokens}
use Rattle.json.specs.Token.{Token}
use Rattle.cj_zone.specs.Table.{zones_of}
use Rattle.cj_cluster.specs.kubectl.Streamed.{BeginsSaid}
use Rattle.cj_cluster.proofs.KubectlLemmas.StreamLemmas.{answer_listed}
use Rattle.cj_cluster.proofs.kubectl.streamed.stream_text.Goals as goal

pub returns : goal.returns
returns c =
    let zones = zones_of c.args.zones.now in
    let ts = c.next.new.self in
    let said = c.in_ok-said.said in
    let first : tokens c.args.text.now ≡ Token.begin_object ∷ ts = grind arith in
    let over : c.stream_members.new.reader ≡ [] = grind arith in
    record {
      ok = answer_listed zones c.args.text.now ts said c.list_of.result first
          (subst (λ rest. BeginsSaid zones 126 ts rest said) over c.in_ok-said.ensures.ok) c.list_of.ensures.ok;
    }
