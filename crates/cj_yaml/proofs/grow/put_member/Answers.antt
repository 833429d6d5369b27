-- nests: the members with the new one.
use Rattle.std.proofs.Common.{◌≤◌, max, string_bytes, ap, ◌∙◌, arith}
use Rattle.serde_json.specs.Data.{depth, members_depth}
use Rattle.serde_json.specs.View.{view, members_view}
use Rattle.serde_json.proofs.Views.{members_view-insert_entry}
use Rattle.cj_yaml.proofs.Depths.{put_depth}
use Rattle.cj_yaml.proofs.grow.put_member.Goals as goal

pub returns : goal.returns
returns c =
    let old = c.args.members.now.entries in
    let is = ap members_view c.in_ok-insert.ensures.entries ∙ members_view-insert_entry old c.args.key c.args.value in
    let grown : members_depth (members_view c.insert.new.self.entries)
    ≤ max (depth (view c.args.value)) (members_depth (members_view old)) =
    rw is (put_depth (string_bytes c.args.key) (view c.args.value) (members_view old)
    (max (depth (view c.args.value)) (members_depth (members_view old))) (omega arith) (omega arith)) in
    record { nests = grown }
