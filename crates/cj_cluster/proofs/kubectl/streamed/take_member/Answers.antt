-- take_member: behind any other value all is as it was.
use Rattle.std.proofs.Common.{◌∙◌, codes, sym}
use Rattle.serde_json.specs.View.{view}
use Rattle.cj_zone.specs.Table.{zones_of}
use Rattle.cj_cluster.proofs.KubectlLemmas.StreamLemmas.{apart, other_taken}
use Rattle.cj_cluster.proofs.kubectl.streamed.take_member.Goals as goal

pub returns-in_ok-_other-clause-ok : goal.returns-in_ok-_other-clause-ok
returns-in_ok-_other-clause-ok c =
    other_taken (zones_of c.args.zones.now) c.args.name.now c.args.reader.now c.read_value.new.reader c.args.said
    (view c.in_ok-_other._other) c.in_ok-_other.ensures.ok
    (apart c.args.name.now (codes "kind") (sym c.eq-else-eq.ensures ∙ c.if-eq-2.false))
    (apart c.args.name.now (codes "items") (sym c.eq.ensures ∙ c.if-eq.false))
