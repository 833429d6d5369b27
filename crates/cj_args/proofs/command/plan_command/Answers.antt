-- plan_command: its ensures, from the file, its own two arguments and the options behind them.
use Rattle.cj_args.proofs.command.plan_command.Goals as goal

pub returns : goal.returns
returns c =
    let one = c.with_arg-command.ensures _ _ c.file_command-command.ensures c.required_arg.ensures in
    c.with_zones.ensures _ (c.with_arg-command-2.ensures _ _ one c.lines_arg.ensures)
