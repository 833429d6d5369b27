-- with_folder: its ensures, from the rules of the two options in their order.
use Rattle.cj_args.proofs.command.with_folder.Goals as goal

pub returns : goal.returns
returns c = λ a base.
    c.with_arg.ensures _ _ (c.with_arg-command.ensures a _ base c.option_arg.ensures) c.explain_arg.ensures
