-- chosen_command: its ensures, from its five arguments in their order.
use Rattle.cj_args.proofs.command.chosen_command.Goals as goal

pub returns : goal.returns
returns c =
    let one = c.with_arg-command.ensures _ _ c.new_command-command.ensures c.workers_arg.ensures in
    let two = c.with_arg-command-2.ensures _ _ one c.namespace_arg.ensures in
    let three = c.with_arg-command-3.ensures _ _ two c.selector_arg.ensures in
    let four = c.with_arg-command-4.ensures _ _ three c.flag_arg.ensures in
    c.with_arg.ensures _ _ four c.flag_arg-2.ensures
