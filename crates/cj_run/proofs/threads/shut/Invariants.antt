-- shut, its loop: it can go on, and the pass is as it was, since each call so far was refused for want of memory.
use Rattle.std.proofs.Common.{◌≡◌}
use Rattle.cj_run.proofs.threads.shut.Given as goal

abbrev pub invariant-loop : goal.invariant-loop
invariant-loop g l = record {
  can : (goal.iterator-loop g).can_next l.iterator';
  ends : (goal.iterator-loop g).is_finite l.iterator';
  same : l.follower.pass ≡ l.fn.follower.pass;
}
