-- option_arg: its ensures, from what each call adds to the rule.
use Rattle.cj_args.proofs.Building.{help_is, long_is, new_is, value_name_is}
use Rattle.cj_args.proofs.arguments.option_arg.Goals as goal

pub returns : goal.returns
returns c =
    let new = new_is c.new.result c.args.id.now c.new.ensures.rule c.new.ensures.optional.1 in
    let long = long_is _ c.new.result c.long.result c.args.id c.long.ensures new in
    let named = value_name_is _ c.long.result c.value_name.result c.args.value c.value_name.ensures long in
    help_is _ c.value_name.result c.help.result c.args.help c.help.ensures named
