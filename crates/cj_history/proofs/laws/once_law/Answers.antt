-- once_law: its clause OnceAndAlone, of the Jobs that are made for a time, and beside others.
use Rattle.cj_history.proofs.Onces.{once_and_alone}
use Rattle.cj_history.proofs.laws.once_law.Goals as goal

pub returns : goal.returns
returns c = once_and_alone
