-- upcoming_command: its ensures, from the files, its own ten arguments and the options behind them.
use Rattle.cj_args.proofs.command.upcoming_command.Goals as goal

pub returns : goal.returns
returns c =
    let one = c.with_arg-command.ensures _ _ c.new_command-command.ensures c.inputs_arg.ensures in
    let two = c.with_arg-command-2.ensures _ _ one c.option_arg.ensures in
    let three = c.with_arg-command-3.ensures _ _ two c.length_arg.ensures in
    let four = c.with_arg-command-4.ensures _ _ three c.option_arg-2.ensures in
    let five = c.with_arg-command-5.ensures _ _ four c.crons_arg.ensures in
    let six = c.with_arg-command-6.ensures _ _ five c.namespace_arg.ensures in
    let seven = c.with_arg-command-7.ensures _ _ six c.all_arg.ensures in
    let eight = c.with_arg-command-8.ensures _ _ seven c.flag_arg.ensures in
    let nine = c.with_arg-command-9.ensures _ _ eight c.peaks_arg.ensures in
    let ten = c.with_arg-command-10.ensures _ _ nine c.lines_arg.ensures in
    c.with_zones.ensures _ (c.with_clock.ensures _ (c.with_arg-command-11.ensures _ _ ten c.flag_arg-2.ensures))
