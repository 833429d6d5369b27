-- positional_arg: its ensures, from what each call adds to the rule.
use Rattle.std.proofs.Common.{true}
use Rattle.cj_args.proofs.Building.{help_is, new_is, required_is, value_name_is}
use Rattle.cj_args.proofs.arguments.positional_arg.Goals as goal

pub returns : goal.returns
returns c =
    let new = new_is c.new.result c.args.id.now c.new.ensures.rule c.new.ensures.optional.1 in
    let required = required_is _ c.new.result c.required.result true c.required.ensures new in
    let named = value_name_is _ c.required.result c.value_name.result c.args.value c.value_name.ensures required in
    help_is _ c.value_name.result c.help.result c.args.help c.help.ensures named
