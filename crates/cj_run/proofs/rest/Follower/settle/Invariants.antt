-- Follower::settle, its loop: it can go on, and the informer made steps at the moment, the first of them before.
use Rattle.cj_run.specs.Follows.{Follows}
use Rattle.cj_run.proofs.rest.Follower.settle.Given as goal

abbrev pub invariant-loop : goal.invariant-loop
invariant-loop g l = record {
  can : (goal.iterator-loop g).can_next l.iterator';
  ends : (goal.iterator-loop g).is_finite l.iterator';
  follows : Follows l.now l.fn.self l.self;
}
