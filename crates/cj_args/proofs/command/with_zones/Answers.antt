-- with_zones: its ensures, from the rule of the option and those behind it.
use Rattle.cj_args.proofs.command.with_zones.Goals as goal

pub returns : goal.returns
returns c = λ a base. c.with_folder.ensures _ (c.with_arg.ensures a _ base c.zones_arg.ensures)
