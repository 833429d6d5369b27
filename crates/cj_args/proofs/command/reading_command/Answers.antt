-- reading_command: its ensures, from the two commands.
use Rattle.cj_args.proofs.command.reading_command.Goals as goal

pub returns : goal.returns
returns c =
    c.with_command.ensures _ _ (c.with_command-command.ensures _ _ c.bare_command.ensures c.next_command.ensures)
    c.check_command.ensures
