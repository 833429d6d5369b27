-- required_arg: its ensures, from what the call adds to the rule.
use Rattle.std.proofs.Common.{true}
use Rattle.cj_args.proofs.Building.{required_is}
use Rattle.cj_args.proofs.arguments.required_arg.Goals as goal

pub returns : goal.returns
returns c = required_is _ c.option_arg.result c.required.result true c.required.ensures c.option_arg.ensures
