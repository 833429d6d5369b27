-- reported_command: its ensures, from the three commands.
use Rattle.cj_args.proofs.command.reported_command.Goals as goal

pub returns : goal.returns
returns c =
    c.with_command.ensures _ _ c.made_command.ensures c.crontab_command.ensures
