-- legal_law: its clause LegalLaw, that a history is legal just where it is lawful by looking back.
use Rattle.cj_history.proofs.One.{legal_law}
use Rattle.cj_history.proofs.laws.legal_law.Goals as goal

pub returns : goal.returns
returns c = legal_law
