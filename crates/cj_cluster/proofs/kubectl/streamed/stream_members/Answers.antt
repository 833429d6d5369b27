-- stream_members: its loop, with one more member at each turn, up to the brace.
use Rattle.std.proofs.Common.{◌≡◌, Some, None, arith}
use Rattle.json.specs.Json.{read_key}
use Rattle.json.proofs.Grammar.{read_key-shorter}
use Rattle.cj_zone.specs.Table.{zones_of}
use Rattle.cj_cluster.proofs.KubectlLemmas.StreamLemmas.{tells-end, tells-more, tells-start}
use Rattle.cj_cluster.proofs.kubectl.streamed.stream_members.Goals as goal

pub members-init : goal.members-init
members-init c = record { tells = tells-start (zones_of c.args.zones.now) c.args.reader.now }

pub members-preserved : goal.members-preserved
members-preserved c =
    let l = c.members in
    let name = c.in-Some.name.now in
    let s = c.next_key.new.self in
    let named : read_key l.reader ≡ Some (Some name, s) = grind arith in
    record {
      tells =
          tells-more (zones_of c.args.zones.now) c.args.reader.now l.reader s c.take_member.new.reader name l.said
          c.in_ok-said.said l.invariant.tells named (read_key-shorter l.reader (Some name) s named)
          c.in_ok-said.ensures.shorter c.in_ok-said.ensures.ok;
    }

pub returns : goal.returns
returns c =
    let l = c.members in
    let r = c.next_key.new.self in
    let over : read_key l.reader ≡ Some (None, r) = grind arith in
    record { ok = tells-end (zones_of c.args.zones.now) c.args.reader.now l.reader r l.said l.invariant.tells over }
