-- gather: its loop's invariant, with one share more taken up.
use Rattle.cj_runner.proofs.Gathers.{gathered_more}
use Rattle.cj_runner.proofs.gather.gather.Goals as goal

pub loop-end-preserved : goal.loop-end-preserved
loop-end-preserved c = gathered_more c.loop-end.yielded c.in-Some.end c.loop-end.gathered c.take_up.new.self
    c.loop-end.invariant c.take_up.ensures
