-- print_all: its clause err, where a step isn't printed, and that its loop keeps what holds.
use Rattle.std.proofs.Common.{◌∙◌}
use Rattle.cj_replay.proofs.Printed.{at_error, first_false, first_true, loop_breaks, loop_more}
use Rattle.cj_replay.proofs.run.print_all.Goals as goal
use Rattle.cj_replay.proofs.run.print_all.Goals.{then-is_full, else-is_full}

pub returns-in_err-found-clause-err : goal.returns-in_err-found-clause-err
returns-in_err-found-clause-err g c =
    at_error c.from_residual.result
    (loop_breaks c.args.zones.now c.args.world.now.limits c.loop-step.world.limits c.args.world.now.history
    (g.W.Write.contents c.args.out.now) c.args.steps.now c.loop-step.step-index c.step-item.result
    c.loop-step-test.true c.step-item.is c.loop-step.invariant.limits
    c.loop-step.is_full c.loop-step.world.history (g.W.Write.contents c.loop-step.out) c.loop-step.pending
    c.loop-step.invariant.stepped
    (g.W.Write.contents c.print_step.new.out) c.in_err-found.ensures.err)

pub loop-step-preserved : goal.loop-step-preserved
loop-step-preserved g c = record {
  limits = c.print_step.ensures.limits ∙ c.loop-step.invariant.limits;
  stepped =
      loop_more c.args.zones.now c.args.world.now.limits c.loop-step.world.limits c.args.world.now.history
      (g.W.Write.contents c.args.out.now) c.args.steps.now c.loop-step.step-index c.step-item.result
      c.loop-step-test.true c.step-item.is c.loop-step.invariant.limits
      c.loop-step.is_full c.loop-step.world.history (g.W.Write.contents c.loop-step.out) c.loop-step.pending
      c.loop-step.invariant.stepped
      c.in_ok-found.found c.if-is_full.is_full c.print_step.new.world.history
      (g.W.Write.contents c.print_step.new.out) c.print_step.new.pending
      (elim c.if-is_full.branch [
        | then-is_full w ↦ first_true c.loop-step.is_full c.in_ok-found.found c.if-is_full.is_full w.if-is_full.true
            w.is_full-is
        | else-is_full w ↦ first_false c.loop-step.is_full c.in_ok-found.found c.if-is_full.is_full w.if-is_full.false
            w.is_full-is
      ])
      c.in_ok-found.ensures.ok;
}
