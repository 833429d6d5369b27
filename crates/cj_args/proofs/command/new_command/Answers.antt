-- new_command: its ensures, that the texts of help change nothing.
use Rattle.cj_args.proofs.Building.{about_is, after_help_is, new_command_is}
use Rattle.cj_args.proofs.command.new_command.Goals as goal

pub returns : goal.returns
returns c =
    let new = new_command_is c.new.result c.args.name.now c.new.ensures.app c.new.ensures.local in
    let told = about_is _ c.new.result c.about.result c.args.about c.about.ensures new in
    after_help_is _ c.about.result c.after_help.result c.args.after c.after_help.ensures told
