-- audit_command: its ensures, from the file, its own seven arguments and the options behind it.
use Rattle.cj_args.proofs.command.audit_command.Goals as goal

pub returns : goal.returns
returns c =
    let one = c.with_arg-command.ensures _ _ c.cluster_command-command.ensures c.option_arg.ensures in
    let two = c.with_arg-command-2.ensures _ _ one c.option_arg-2.ensures in
    let three = c.with_arg-command-3.ensures _ _ two c.crons_arg.ensures in
    let four = c.with_arg-command-4.ensures _ _ three c.namespace_arg.ensures in
    let five = c.with_arg-command-5.ensures _ _ four c.all_arg.ensures in
    let six = c.with_arg-command-6.ensures _ _ five c.lines_arg.ensures in
    c.with_zones.ensures _ (c.with_clock.ensures _ (c.with_arg-command-7.ensures _ _ six c.flag_arg.ensures))
