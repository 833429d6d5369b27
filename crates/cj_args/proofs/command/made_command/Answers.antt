-- made_command: its ensures, from the three commands.
use Rattle.cj_args.proofs.command.made_command.Goals as goal

pub returns : goal.returns
returns c =
    c.with_command.ensures _ _ (c.with_command-command.ensures _ _ c.asked_command.ensures
    c.report_command.ensures)
    c.scenario_command.ensures
