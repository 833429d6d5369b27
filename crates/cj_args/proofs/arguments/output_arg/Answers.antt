-- output_arg: its ensures, from what each call adds to the rule.
use Rattle.cj_args.proofs.Building.{default_is, short_is}
use Rattle.cj_args.proofs.arguments.output_arg.Goals as goal

pub returns : goal.returns
returns c =
    let short = short_is _ c.option_arg.result c.short.result _ c.short.ensures c.option_arg.ensures in
    default_is _ c.short.result c.default_value.result _ c.default_value.ensures short
