-- bare_command: its ensures, from what each call changes.
use Rattle.std.proofs.Common.{true}
use Rattle.cj_args.proofs.Building.{about_is, new_command_is, subcommand_required_is, version_is}
use Rattle.cj_args.proofs.command.bare_command.Goals as goal

pub returns : goal.returns
returns c =
    let new = new_command_is c.new.result _ c.new.ensures.app c.new.ensures.local in
    let told = about_is _ c.new.result c.about.result _ c.about.ensures new in
    let versioned = version_is _ c.about.result c.version.result _ c.version.ensures told in
    subcommand_required_is _ c.version.result c.subcommand_required.result true c.subcommand_required.ensures versioned
