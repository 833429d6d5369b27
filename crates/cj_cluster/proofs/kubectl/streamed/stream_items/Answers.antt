-- stream_items: its loop, with one more item at each turn, up to the bracket.
use Rattle.std.proofs.Common.{◌≡◌, ◌+◌, ◌<◌, length, Some, None, sym, subst, arith}
use Rattle.json.specs.Json.{after_end_array}
use Rattle.serde_json.specs.View.{view}
use Rattle.cj_json.specs.Tokens.{Begins}
use Rattle.cj_zone.specs.Table.{zones_of}
use Rattle.cj_cluster.specs.kubectl.Streamed.{AddsAnywhere}
use Rattle.cj_cluster.proofs.KubectlLemmas.StreamLemmas.{Streams, streams-end, streams-more, streams-start}
use Rattle.cj_cluster.proofs.kubectl.streamed.stream_items.Goals as goal

pub items-init : goal.items-init
items-init c = record {
  streams =
      streams-start (zones_of c.args.zones.now) 125 c.args.reader.now c.empty_list-list.result
      c.empty_list-list.ensures;
  shorter = omega arith;
}

pub items-preserved : goal.items-preserved
items-preserved c =
    let l = c.items in
    let zones = zones_of c.args.zones.now in
    let r = c.read_value.new.reader in
    let d = view c.in_ok-value.value in
    let more = c.add_said.new.list in
    let found = c.in_ok-value.ensures in
    let going : (after_end_array l.reader ≡ None) × (c.take_end_array.new.self ≡ l.reader) = grind arith in
    let less : length r < length l.reader = rw (← going.1) found.shorter in
    let first : Begins 125 l.reader r d = rw (← going.1) found.ok in
    let next : c.in-Some.next ≡ l.place + 1 = grind arith in
    let adds : AddsAnywhere zones (l.place + 1) d l.list more =
    subst (λ p. AddsAnywhere zones p d l.list more) next c.in_ok-add_said.ensures.ok in
    record {
      streams =
          subst (λ p. Streams zones 125 c.args.reader.now p more r) (sym next)
          (streams-more zones 125 c.args.reader.now l.place l.list more l.reader r d l.invariant.streams going.0 less
          first adds);
      shorter = omega (arith, less, l.invariant.shorter);
    }

pub returns-clause-ok : goal.returns-clause-ok
returns-clause-ok c =
    let l = c.items in
    let r = c.take_end_array.new.self in
    let over : after_end_array l.reader ≡ Some r = grind arith in
    streams-end (zones_of c.args.zones.now) 125 c.args.reader.now l.place l.list l.reader r l.invariant.streams over
