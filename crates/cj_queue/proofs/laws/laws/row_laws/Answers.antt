-- row_laws: its one clause, RowsStayStingy, which is a lemma by itself.
use Rattle.cj_queue.proofs.LawsLemmas.Rows.{rows_stay_stingy}
use Rattle.cj_queue.proofs.laws.laws.row_laws.Goals as goal

pub returns : goal.returns
returns c = rows_stay_stingy
