-- in_file_arg: its ensures, from what the call adds to the rule.
use Rattle.cj_args.proofs.Building.{short_is}
use Rattle.cj_args.proofs.arguments.in_file_arg.Goals as goal

pub returns : goal.returns
returns c = short_is _ c.flag_arg.result c.short.result _ c.short.ensures c.flag_arg.ensures
