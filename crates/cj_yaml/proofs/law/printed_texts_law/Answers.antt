-- printed_texts_law: it is a lemma.
use Rattle.cj_yaml.proofs.PrintedTexts.{reads_back}
use Rattle.cj_yaml.proofs.law.printed_texts_law.Goals as goal

pub returns : goal.returns
returns c = reads_back
