-- pruned_items: one item more at each turn, and the bracket behind the last.
use Rattle.std.proofs.Common.{◌≡◌, ◌<◌, None, Some, length, arith}
use Rattle.json.specs.Json.{after_end_array}
use Rattle.serde_json.specs.View.{view}
use Rattle.cj_json.specs.Tokens.{Begins}
use Rattle.cj_io.proofs.ZoneFilesLemmas.Pruned.{items_pruned-end, items_pruned-more, items_pruned-start}
use Rattle.cj_io.proofs.zone_files.pruned.pruned_items.Goals as goal

pub items-init : goal.items-init
items-init c = record {
  pruned = items_pruned-start 125 c.args.reader.now c.new-found.result.items c.new-found.ensures.items;
  shorter = omega arith;
}

pub items-preserved : goal.items-preserved
items-preserved c =
    let l = c.items in
    let r = c.read_value.new.reader in
    let d = view c.in_ok-value.value in
    let found = c.in_ok-value.ensures in
    let going : (after_end_array l.reader ≡ None) × (c.take_end_array.new.self ≡ l.reader) = grind arith in
    let less : length r < length l.reader = rw (← going.1) found.shorter in
    let first : Begins 125 l.reader r d = rw (← going.1) found.ok in
    record {
      pruned =
          items_pruned-more 125 c.args.reader.now l.found.items c.push.new.list.items l.reader r d c.in_ok-item.item
          l.invariant.pruned going.0 less first c.in_ok-item.ensures.ok c.in_ok-push.ensures.ok;
      shorter = omega (arith, less, l.invariant.shorter);
    }

pub returns-clause-ok : goal.returns-clause-ok
returns-clause-ok c =
    let l = c.items in
    let r = c.take_end_array.new.self in
    let over : after_end_array l.reader ≡ Some r = grind arith in
    items_pruned-end 125 c.args.reader.now l.found.items l.reader r l.invariant.pruned over
