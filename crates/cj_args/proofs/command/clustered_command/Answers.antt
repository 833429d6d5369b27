-- clustered_command: its ensures, from the three commands.
use Rattle.cj_args.proofs.command.clustered_command.Goals as goal

pub returns : goal.returns
returns c =
    c.with_command.ensures _ _ (c.with_command-command.ensures _ _ c.acting_command.ensures c.why_command.ensures)
    c.audit_command.ensures
