-- push_cell: its one clause where the line has no such cell.
use Rattle.cj_answers.proofs.ClockedLemmas.{front_none}
use Rattle.cj_answers.proofs.clocked.push_cell.Goals as goal

pub returns-in-None : goal.returns-in-None
returns-in-None c = front_none _ _ _
