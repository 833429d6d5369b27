-- asked_command: its ensures, from the four commands.
use Rattle.cj_args.proofs.command.asked_command.Goals as goal

pub returns : goal.returns
returns c =
    let one = c.with_command-command.ensures _ _ c.clustered_command.ensures c.upcoming_command.ensures in
    let two = c.with_command-command-2.ensures _ _ one c.describe_command.ensures in
    c.with_command.ensures _ _ two c.previous_command.ensures
