-- meant: its loop, where the name is nearer than those before it and where it isn't.
use Rattle.cj_answers.proofs.Nearness.{found_nearer, found_other}
use Rattle.cj_answers.proofs.nearest.meant.Goals as goal
use Rattle.cj_answers.proofs.nearest.meant.Goals.{then-edits-above, else-edits-above}

pub loop-name-preserved : goal.loop-name-preserved
loop-name-preserved c = elim c.if-edits-above.branch [
  | then-edits-above w ↦
      let more = found_nearer c.args.text.now c.args.names.now c.loop-name.name-index _ c.loop-name.above _ _ _
      c.loop-name-test.true c.in_ok-edits.ensures c.loop-name.invariant w.if-edits-above.true in
      rw (w.above-is, w.found-is) more
  | else-edits-above w ↦
      let more = found_other c.args.text.now c.args.names.now c.loop-name.name-index _ c.loop-name.above _ _ _
      c.loop-name-test.true c.in_ok-edits.ensures c.loop-name.invariant w.if-edits-above.false in
      rw (w.above-is, w.found-is) more
]
