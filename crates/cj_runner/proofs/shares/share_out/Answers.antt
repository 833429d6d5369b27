-- share_out: its loop's invariant, with one share more.
use Rattle.cj_runner.proofs.Wholes.{owners_more, parts_more}
use Rattle.cj_runner.proofs.shares.share_out.Goals as goal

pub loop-pass-preserved : goal.loop-pass-preserved
loop-pass-preserved c =
    let more = c.in_ok-push.ensures.items in record {
      owners = owners_more _ _ _ c.loop-pass.yielded more c.loop-pass.invariant.owners;
      parts = parts_more _ _ _ c.min-count.result c.loop-pass.left.items _ _ more c.in_ok-rest.ensures.items
          c.in_ok-rest.ensures.tail c.loop-pass.invariant.parts;
    }
