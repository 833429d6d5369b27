-- previous_command: its ensures, from its own six arguments in their order and the options behind them.
use Rattle.cj_args.proofs.previous.previous_command.Goals as goal

pub returns : goal.returns
returns c =
    let one = c.with_arg-command.ensures _ _ c.new_command-command.ensures c.positional_arg.ensures in
    let two = c.with_arg-command-2.ensures _ _ one c.option_arg.ensures in
    let three = c.with_arg-command-3.ensures _ _ two c.count_arg.ensures in
    let four = c.with_arg-command-4.ensures _ _ three c.option_arg-2.ensures in
    let five = c.with_arg-command-5.ensures _ _ four c.option_arg-3.ensures in
    c.with_folder.ensures _ (c.with_arg-command-6.ensures _ _ five c.lines_arg.ensures)
