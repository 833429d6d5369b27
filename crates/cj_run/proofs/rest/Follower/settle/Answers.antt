-- Follower::settle: its ensures and its loop's invariant, with one step more, or none.
use Rattle.std.proofs.Common.{rules}
use Rattle.cj_run.proofs.Followed.{follows_more}
use Rattle.cj_run.proofs.rest.Follower.settle.Goals as goal

pub returns-in-Some-2 : goal.returns-in-Some-2
returns-in-Some-2 g c = follows_more c.args.now c.args.self.now c.loop.self c.step_or_rest.new.self
    c.loop.invariant.follows
    c.in_ok-rest.ensures

pub loop-preserved : goal.loop-preserved
loop-preserved g c = record {
  can = search rules;
  ends = search rules;
  follows = follows_more c.args.now c.args.self.now c.loop.self c.step_or_rest.new.self c.loop.invariant.follows
      c.in_ok-rest.ensures;
}
