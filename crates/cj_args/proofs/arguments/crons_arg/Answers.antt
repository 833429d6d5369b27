-- crons_arg: its ensures, from what the call adds to the rule.
use Rattle.cj_args.proofs.Building.{action_is}
use Rattle.cj_args.proofs.arguments.crons_arg.Goals as goal

pub returns : goal.returns
returns c = action_is _ c.option_arg.result c.action.result _ c.action.ensures c.option_arg.ensures
