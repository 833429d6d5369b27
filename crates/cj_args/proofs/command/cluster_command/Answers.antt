-- cluster_command: its ensures, from the rule of the file.
use Rattle.cj_args.proofs.command.cluster_command.Goals as goal

pub returns : goal.returns
returns c = c.with_arg.ensures _ _ c.new_command-command.ensures c.input_arg.ensures
