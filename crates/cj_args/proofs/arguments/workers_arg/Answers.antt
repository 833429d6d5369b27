-- workers_arg: its ensures, from what each call adds to the rule.
use Rattle.std.proofs.Common.{◌∙◌}
use Rattle.clap.specs.declared.builder.value_parser.ValueParser.TheVariants.{Unsigned}
use Rattle.cj_args.proofs.Building.{default_is, parser_is}
use Rattle.cj_args.proofs.arguments.workers_arg.Goals as goal

pub returns : goal.returns
returns c =
    let given = c.value_parser.ensures.given in
    let parsed = parser_is _ c.option_arg.result c.value_parser.result
    (Unsigned 1 32) given.0 c.value_parser.ensures.others
    given.1 (given.2 ∙ c.unsigned.ensures) c.option_arg.ensures in
    default_is _ c.value_parser.result c.default_value.result _ c.default_value.ensures parsed
