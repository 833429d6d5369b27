-- made_command: its ensures, from the file and its own four arguments in their order.
use Rattle.cj_args.proofs.crontab.made_command.Goals as goal

pub returns : goal.returns
returns c =
    let one = c.with_arg-command.ensures _ _ c.file_command-command.ensures c.flag_arg.ensures in
    let two = c.with_arg-command-2.ensures _ _ one c.option_arg.ensures in
    let three = c.with_arg-command-3.ensures _ _ two c.option_arg-2.ensures in
    c.with_arg.ensures _ _ three c.namespace_arg.ensures
