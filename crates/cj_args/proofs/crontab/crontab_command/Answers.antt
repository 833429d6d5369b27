-- crontab_command: its ensures, from its own last three arguments and the options behind them.
use Rattle.cj_args.proofs.crontab.crontab_command.Goals as goal

pub returns : goal.returns
returns c =
    let one = c.with_arg-command.ensures _ _ c.made_command-command.ensures c.option_arg.ensures in
    let two = c.with_arg-command-2.ensures _ _ one c.option_arg-2.ensures in
    c.with_zones.ensures _ (c.with_arg-command-3.ensures _ _ two c.output_arg.ensures)
