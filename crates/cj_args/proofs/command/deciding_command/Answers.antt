-- deciding_command: its ensures, from the two commands.
use Rattle.cj_args.proofs.command.deciding_command.Goals as goal

pub returns : goal.returns
returns c = c.with_command.ensures _ _ c.reading_command.ensures c.plan_command.ensures
