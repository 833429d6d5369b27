-- without_end: its ensures, that the text is what is before the end.
use Rattle.cj_c.proofs.Lines.{front_of}
use Rattle.cj_c.proofs.answers.fault_text.without_end.Goals as goal

pub returns : goal.returns
returns c = λ text is. front_of c.args.line.now text is
