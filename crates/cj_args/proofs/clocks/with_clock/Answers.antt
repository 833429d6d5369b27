-- with_clock: its ensures, from the rules of the two options in their order.
use Rattle.cj_args.proofs.clocks.with_clock.Goals as goal

pub returns : goal.returns
returns c = λ a base.
    c.with_arg.ensures _ _ (c.with_arg-command.ensures a _ base c.option_arg.ensures) c.flag_arg.ensures
