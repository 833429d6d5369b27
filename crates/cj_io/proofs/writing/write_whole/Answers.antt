-- write_whole: its loop, with what the writer took of the bytes left.
use Rattle.std.proofs.Common.{rules}
use Rattle.cj_io.proofs.Written.{appends_more}
use Rattle.cj_io.proofs.writing.write_whole.Goals as goal

pub loop-preserved : goal.loop-preserved
loop-preserved g c = record {
  within = search rules;
  written = appends_more _ _ _ c.args.bytes.now c.loop.written c.in_ok-count.count c.loop.invariant.written
      c.in_ok-count.ensures.taken;
}
