-- leave: its clause stop, where nothing that was left is due.
use Rattle.std.proofs.Common.{refl}
use Rattle.cj_runner.proofs.Wholes.{none_due}
use Rattle.cj_runner.proofs.runners.leave.Goals as goal

pub returns-else-not-none_due-clause-stop : goal.returns-else-not-none_due-clause-stop
returns-else-not-none_due-clause-stop c = λ none. (
  none,
  none_due c.args.now c.args.left.now
      (c.if-not-none_due.ensures.0 refl),
)
