-- pruned_members: one member more at each turn, and the brace behind the last.
use Rattle.std.proofs.Common.{◌≡◌, None, Some, ap, arith}
use Rattle.json.specs.Json.{read_key}
use Rattle.json.proofs.Grammar.{read_key-shorter}
use Rattle.serde_json.specs.View.{members_view, view}
use Rattle.cj_io.proofs.ZoneFilesLemmas.Pruned.{members_pruned-end, members_pruned-more, members_pruned-start}
use Rattle.cj_io.proofs.zone_files.pruned.pruned_members.Goals as goal

pub members-init : goal.members-init
members-init c =
    members_pruned-start 126 c.args.reader.now (members_view c.new-found.result.entries)
    (ap members_view c.new-found.ensures.empty)

pub members-preserved : goal.members-preserved
members-preserved c =
    let l = c.members in
    let k = c.in-Some.name.now in
    let s = c.next_key.new.self in
    let r = c.pruned_member.new.reader in
    let found = c.in_ok-member.ensures in
    let named : read_key l.reader ≡ Some (Some k, s) = grind arith in
    members_pruned-more 126 c.args.reader.now (members_view l.found.entries) (members_view c.put.new.map.entries)
    l.reader s r k (view c.in_ok-member.member) l.invariant named (read_key-shorter l.reader (Some k) s named)
    found.shorter found.ok c.in_ok-put.ensures.ok

pub returns : goal.returns
returns c =
    let l = c.members in
    let r = c.next_key.new.self in
    let over : read_key l.reader ≡ Some (None, r) = grind arith in
    record {
      ok = members_pruned-end 126 c.args.reader.now (members_view l.found.entries) l.reader r l.invariant over;
    }
