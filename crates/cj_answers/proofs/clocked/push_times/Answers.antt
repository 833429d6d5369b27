-- push_times: its one clause and its loop's invariant, part by part.
use Rattle.std.proofs.Common.{rules}
use Rattle.cj_answers.proofs.ClockedLemmas.{adds_same, front_all, front_more, front_none, front_part}
use Rattle.cj_answers.proofs.clocked.push_times.Goals as goal

pub loop-part-init : goal.loop-part-init
loop-part-init c = (front_none _ _ _, search rules)

pub loop-part-preserved : goal.loop-part-preserved
loop-part-preserved c = (
  front_more _ _ _ _ _ _ _ c.loop-part.invariant.0
      (front_part _ _ _ _ _ _ c.in-Some.ensures.parts c.in_ok-push_part.ensures),
  search rules,
)

pub returns : goal.returns
returns c = front_all _ _ _ _ _ _ c.loop-part.invariant.0 (adds_same _ _ _ _ c.in_ok-push_str.ensures.bytes)
