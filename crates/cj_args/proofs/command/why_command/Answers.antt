-- why_command: its ensures, from the file, its own six arguments and the options behind them.
use Rattle.cj_args.proofs.command.why_command.Goals as goal

pub returns : goal.returns
returns c =
    let one = c.with_arg-command.ensures _ _ c.cluster_command-command.ensures c.option_arg.ensures in
    let two = c.with_arg-command-2.ensures _ _ one c.crons_arg.ensures in
    let three = c.with_arg-command-3.ensures _ _ two c.namespace_arg.ensures in
    let four = c.with_arg-command-4.ensures _ _ three c.all_arg.ensures in
    let five = c.with_arg-command-5.ensures _ _ four c.output_arg.ensures in
    c.with_zones.ensures _ (c.with_clock.ensures _ (c.with_arg-command-6.ensures _ _ five c.flag_arg.ensures))
