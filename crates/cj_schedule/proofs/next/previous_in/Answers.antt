-- previous_in: its clauses some and none, and that what is taken from upto is at most upto.
use Rattle.std.proofs.Common.{arith}
use Rattle.cj_schedule.proofs.NextLemmas.{none_up, previous_up}
use Rattle.cj_schedule.proofs.next.previous_in.Goals as goal

pub returns-then-rest-eq0-clause-none : goal.returns-then-rest-eq0-clause-none
returns-then-rest-eq0-clause-none c = λ _. none_up c.args.set c.args.upto c.requires c.if-rest-eq0.true

pub overflow_sub-result : goal.overflow_sub-result
overflow_sub-result c = (previous_up c.args.set c.args.upto c.requires (omega (arith, c.if-rest-eq0.false))).0

pub returns-else-rest-eq0-clause-some : goal.returns-else-rest-eq0-clause-some
returns-else-rest-eq0-clause-some c = (previous_up c.args.set c.args.upto c.requires
    (omega (arith, c.if-rest-eq0.false))).1
