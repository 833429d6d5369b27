-- replay_command: its ensures, from the file, its own argument and the options behind it.
use Rattle.cj_args.proofs.command.replay_command.Goals as goal

pub returns : goal.returns
returns c =
    c.with_zones.ensures _ (c.with_arg-command.ensures _ _ c.file_command-command.ensures c.lines_arg.ensures)
