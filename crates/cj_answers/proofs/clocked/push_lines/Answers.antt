-- push_lines: its one clause and its loop's invariant, part by part.
use Rattle.std.proofs.Common.{rules}
use Rattle.cj_answers.proofs.ClockedLemmas.{front_all, front_more, front_none, front_part}
use Rattle.cj_answers.proofs.clocked.push_lines.Goals as goal

pub loop-line-init : goal.loop-line-init
loop-line-init c = (front_none _ _ _, search rules)

pub loop-line-preserved : goal.loop-line-preserved
loop-line-preserved c = (
  front_more _ _ _ _ _ _ _ c.loop-line.invariant.0
      (front_part _ _ _ _ _ _ c.in-Some.ensures.parts c.in_ok-push_line.ensures),
  search rules,
)

pub returns : goal.returns
returns c = front_all _ _ _ _ _ _ c.loop-line.invariant.0 c.in_ok-push_line-2.ensures
