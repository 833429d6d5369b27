-- control_command: its ensures, from its own arguments in their order and the options behind them.
use Rattle.cj_args.proofs.command.control_command.Goals as goal

pub returns : goal.returns
returns c =
    let one = c.with_arg-command.ensures _ _ c.chosen_command-command.ensures c.usual_arg.ensures in
    let two = c.with_arg-command-2.ensures _ _ one c.option_arg.ensures in
    let three = c.with_arg-command-3.ensures _ _ two c.usual_arg-2.ensures in
    let four = c.with_arg-command-4.ensures _ _ three c.option_arg-2.ensures in
    c.with_folder.ensures _ (c.with_arg-command-5.ensures _ _ four c.option_arg-3.ensures)
