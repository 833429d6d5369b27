-- plan_text: the value that it gives the text of has no float and isn't deep, by what is told.
use Rattle.cj_c.proofs.Depths.{within_as, plan_within}
use Rattle.cj_c.proofs.NoFloats.{free_as, plan_free}
use Rattle.cj_c.proofs.answers.plan.plan_text.Goals as goal

pub json_text-requires : goal.json_text-requires
json_text-requires c = record {
  exact = free_as _ _ c.in_ok-value.ensures.ok (plan_free c.args.steps.now);
  flat = within_as 127 _ _ c.in_ok-value.ensures.ok (plan_within 124 c.args.steps.now);
}
