-- usual_arg: its ensures, from what the call adds to the rule.
use Rattle.cj_args.proofs.Building.{default_is}
use Rattle.cj_args.proofs.arguments.usual_arg.Goals as goal

pub returns : goal.returns
returns c = default_is _ c.option_arg.result c.default_value.result _ c.default_value.ensures c.option_arg.ensures
