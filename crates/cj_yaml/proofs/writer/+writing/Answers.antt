-- write_members and write_items: one entry more, and none.
use Rattle.std.proofs.Common.{string_bytes, arith}
use Rattle.std.proofs.lemmas.List.{drop_all}
use Rattle.serde_json.specs.View.{items_view, members_view}
use Rattle.cj_yaml.specs.BlockStyle.{IsList, IsMapping}
use Rattle.cj_yaml.proofs.Blocks.{entry_more, items_end, members_end, value_more}
use Rattle.cj_yaml.proofs.writer.+writing.Goals as goal

pub write_items-loop-item-preserved : goal.write_items-loop-item-preserved
write_items-loop-item-preserved t c =
    value_more c.deref-item-items.result.now c.loop-item.item-index c.item-item.result
    (string_bytes c.write_item.new.out) (string_bytes c.push_str.new.self) (string_bytes c.push_front.new.out)
    (string_bytes c.loop-item.out) (string_bytes c.args.out.now) c.args.column c.in_ok-inner.inner c.loop-item.behind
    (IsList c.args.column c.args.compact (items_view c.args.items.now.items)) c.loop-item-test.true c.item-item.is
    c.loop-item.invariant.0 c.loop-item.invariant.1 c.in_ok-inner.ensures c.in_ok-push_front.ensures
    c.in_ok-push_str.ensures.bytes c.in_ok-write_item.ensures

pub write_items-returns : goal.write_items-returns
write_items-returns t c =
    items_end _ (string_bytes c.loop-item.out) (string_bytes c.args.out.now) c.args.column c.loop-item.behind
    (IsList c.args.column c.args.compact (items_view c.args.items.now.items))
    (drop_all c.loop-item.item-index c.deref-item-items.result.now (omega (arith, c.loop-item-test.false)))
    c.loop-item.invariant.1

pub write_members-loop-key-preserved : goal.write_members-loop-key-preserved
write_members-loop-key-preserved t c =
    entry_more c.loop-key.key-iterator c.next.new.self c.in-Some.key.now c.in-Some.member.now c.as_str.result.now
    (string_bytes c.write_entry.new.out) (string_bytes c.loop-key.out) (string_bytes c.args.out.now) c.args.column
    c.loop-key.behind (IsMapping c.args.column c.args.compact (members_view c.args.members.now.entries))
    c.in-Some.ensures.steps c.as_str.ensures.value c.loop-key.invariant.0 c.loop-key.invariant.1
    c.in_ok-write_entry.ensures

pub write_members-returns : goal.write_members-returns
write_members-returns t c =
    members_end c.loop-key.key-iterator (string_bytes c.loop-key.out) (string_bytes c.args.out.now) c.args.column
    c.loop-key.behind (IsMapping c.args.column c.args.compact (members_view c.args.members.now.entries))
    c.in-None.ensures.steps.0 c.loop-key.invariant.1
