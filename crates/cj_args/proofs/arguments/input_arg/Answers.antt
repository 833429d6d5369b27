-- input_arg: its ensures, from what each call adds to the rule.
use Rattle.std.proofs.Common.{codes}
use Rattle.cj_args.proofs.Building.{default_is, help_is, new_is, value_name_is}
use Rattle.cj_args.proofs.arguments.input_arg.Goals as goal

pub returns : goal.returns
returns c =
    let new = new_is c.new.result (codes "file") c.new.ensures.rule c.new.ensures.optional.1 in
    let named = value_name_is _ c.new.result c.value_name.result _ c.value_name.ensures new in
    let told = help_is _ c.value_name.result c.help.result c.args.file c.help.ensures named in
    default_is _ c.help.result c.default_value.result _ c.default_value.ensures told
