-- push_line: its one clause and its loop's invariant, cell by cell.
use Rattle.std.proofs.Common.{rules}
use Rattle.cj_answers.proofs.ClockedLemmas.{front_all, front_more, front_none}
use Rattle.cj_answers.proofs.clocked.push_line.Goals as goal

pub loop-column-init : goal.loop-column-init
loop-column-init c = (front_none _ _ _, search rules)

pub loop-column-preserved : goal.loop-column-preserved
loop-column-preserved c =
    (front_more _ _ _ _ _ _ _ c.loop-column.invariant.0 c.in_ok-rest.ensures, search rules)

pub returns : goal.returns
returns c = front_all _ _ _ _ _ _ c.loop-column.invariant.0 c.in_ok-push_times.ensures
