-- with_arg: its ensures, from what the call adds.
use Rattle.cj_args.proofs.Building.{arg_is}
use Rattle.cj_args.proofs.command.with_arg.Goals as goal

pub returns : goal.returns
returns c = λ a r meant is.
    arg_is c.args.command c.arg.result a r c.in_ok-command.field-0 c.args.arg c.in_ok-command.was c.arg.ensures meant is
