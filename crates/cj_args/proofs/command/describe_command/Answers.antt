-- describe_command: its ensures, from its own seven arguments in their order and the options behind them.
use Rattle.cj_args.proofs.command.describe_command.Goals as goal

pub returns : goal.returns
returns c =
    let one = c.with_arg-command.ensures _ _ c.new_command-command.ensures c.positional_arg.ensures in
    let two = c.with_arg-command-2.ensures _ _ one c.in_file_arg.ensures in
    let three = c.with_arg-command-3.ensures _ _ two c.option_arg.ensures in
    let four = c.with_arg-command-4.ensures _ _ three c.count_arg.ensures in
    let five = c.with_arg-command-5.ensures _ _ four c.option_arg-2.ensures in
    let six = c.with_arg-command-6.ensures _ _ five c.option_arg-3.ensures in
    let seven = c.with_arg-command-7.ensures _ _ six c.lines_arg.ensures in
    c.with_folder.ensures _ seven
