-- exclusive_law: its clause AlwaysExclusive, that a key is with one worker at a time.
use Rattle.cj_history.proofs.One.{exclusive}
use Rattle.cj_history.proofs.laws.exclusive_law.Goals as goal

pub returns : goal.returns
returns c = exclusive
