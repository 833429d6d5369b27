-- inputs_arg: its ensures, from what the call adds to the rule.
use Rattle.cj_args.proofs.Building.{range_is}
use Rattle.cj_args.proofs.arguments.inputs_arg.Goals as goal

pub returns : goal.returns
returns c = range_is _ c.input_arg.result c.num_args.result _ c.num_args.ensures c.input_arg.ensures
