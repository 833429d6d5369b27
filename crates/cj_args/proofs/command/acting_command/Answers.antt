-- acting_command: its ensures, from the three commands.
use Rattle.cj_args.proofs.command.acting_command.Goals as goal

pub returns : goal.returns
returns c =
    c.with_command.ensures _ _ (c.with_command-command.ensures _ _ c.deciding_command.ensures c.replay_command.ensures)
    c.run_command.ensures
