-- has: its clause where the set has no key.
use Rattle.std.proofs.Common.{sym}
use Rattle.cj_queue.proofs.Stacks.{none_stands}
use Rattle.cj_queue.proofs.line.has.Goals as goal

pub returns-then-is_empty : goal.returns-then-is_empty
returns-then-is_empty c = sym (none_stands c.args.set.now.keys c.args.key.now (c.is_empty.ensures.0 c.if-is_empty.true))
