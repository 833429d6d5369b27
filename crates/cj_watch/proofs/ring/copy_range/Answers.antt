-- copy_range: that its loop keeps what holds, with one item more.
use Rattle.std.proofs.Common.{◌≡◌, Some, slice_get, arith, ap}
use Rattle.std.specs.Option.{option_copied}
use Rattle.std.proofs.lemmas.Grind.{common_steps}
use Rattle.cj_watch.proofs.Pieces.{piece_more}
use Rattle.cj_watch.proofs.ring.copy_range.Goals as goal

pub loop-i-preserved : goal.loop-i-preserved
loop-i-preserved g c =
    let item : option_copied c.get.result ≡ Some c.unwrap-item.result.now = ap option_copied c.unwrap-item.ensures in
    let copied : c.in_ok-try_copy.field-0 ≡ c.unwrap-item.result.now = c.in_ok-try_copy.ensures.ok in
    let here : slice_get c.args.ring.now.items c.loop-i.i ≡ Some c.in_ok-try_copy.field-0 =
    cc (item, copied, c.get.ensures) in
    let more = piece_more c.args.ring.now.items c.args.start c.loop-i.i c.in_ok-try_copy.field-0 (omega arith)
    (omega arith) here in
    grind (arith, common_steps, more)
