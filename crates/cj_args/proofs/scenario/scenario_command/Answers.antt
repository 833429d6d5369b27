-- scenario_command: its ensures, from the file, its own five arguments and the options behind them.
use Rattle.cj_args.proofs.scenario.scenario_command.Goals as goal

pub returns : goal.returns
returns c =
    let one = c.with_arg-command.ensures _ _ c.cluster_command-command.ensures c.option_arg.ensures in
    let two = c.with_arg-command-2.ensures _ _ one c.length_arg.ensures in
    let three = c.with_arg-command-3.ensures _ _ two c.option_arg-2.ensures in
    let four = c.with_arg-command-4.ensures _ _ three c.crons_arg.ensures in
    c.with_zones.ensures _ (c.with_arg-command-5.ensures _ _ four c.namespace_arg.ensures)
