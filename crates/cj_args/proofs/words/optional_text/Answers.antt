-- optional_text: its ensures, that what get_str finds is the first value of the argument.
use Rattle.std.proofs.Common.{sym, ◌∙◌}
use Rattle.clap.specs.Words.{found_of}
use Rattle.clap.proofs.WalkLemmas.{first_value-rows}
use Rattle.cj_args.proofs.words.optional_text.Goals as goal

pub returns : goal.returns
returns c = sym (first_value-rows (found_of c.args.found.now) c.args.id.now) ∙ sym c.get_str.ensures
