-- cronsim_command: its ensures, from the two commands.
use Rattle.std.proofs.lemmas.Result.{IfOk-weaker}
use Rattle.cj_args.proofs.command.cronsim_command.Goals as goal

pub returns : goal.returns
returns c = IfOk-weaker c.with_command.result _ _ (λ command is. is.app)
    (c.with_command.ensures _ _ c.reported_command.ensures c.control_command.ensures)
