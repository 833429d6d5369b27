-- describe_text: the value that it gives the text of has no float and isn't deep, by what is told.
use Rattle.cj_c.proofs.Depths.{within_as}
use Rattle.cj_c.proofs.NoFloats.{free_as}
use Rattle.cj_c.proofs.ComingValues.{describe_free, describe_within}
use Rattle.cj_c.proofs.answers.describe.describe_text.Goals as goal

pub json_text-requires : goal.json_text-requires
json_text-requires c = record {
  exact =
      free_as _ _ c.in_ok-value.ensures.ok (describe_free c.args.text.now c.args.rule.now c.args.schedule.now
      c.args.zone.now c.args.after c.as_slice.result.now);
  flat =
      within_as 127 _ _ c.in_ok-value.ensures.ok (describe_within c.args.text.now c.args.rule.now c.args.schedule.now
      c.args.zone.now c.args.after c.as_slice.result.now);
}
