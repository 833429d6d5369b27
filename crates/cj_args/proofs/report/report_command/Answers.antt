-- report_command: its ensures, from the files, its own five arguments and the options behind them.
use Rattle.cj_args.proofs.report.report_command.Goals as goal

pub returns : goal.returns
returns c =
    let one = c.with_arg-command.ensures _ _ c.new_command-command.ensures c.inputs_arg.ensures in
    let two = c.with_arg-command-2.ensures _ _ one c.option_arg.ensures in
    let three = c.with_arg-command-3.ensures _ _ two c.option_arg-2.ensures in
    let four = c.with_arg-command-4.ensures _ _ three c.crons_arg.ensures in
    let five = c.with_arg-command-5.ensures _ _ four c.namespace_arg.ensures in
    c.with_zones.ensures _ (c.with_arg-command-6.ensures _ _ five c.all_arg.ensures)
