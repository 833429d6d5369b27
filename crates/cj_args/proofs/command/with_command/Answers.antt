-- with_command: its ensures, from what the call adds.
use Rattle.cj_args.proofs.Building.{subcommand_is}
use Rattle.cj_args.proofs.command.with_command.Goals as goal

pub returns : goal.returns
returns c = λ a b meant meant_below.
    subcommand_is c.args.command c.args.below c.subcommand.result a b c.in_ok-command.field-0 c.in_ok-below.field-0
    c.in_ok-command.was c.in_ok-below.was c.subcommand.ensures meant meant_below
