-- why_text: the value that it gives the text of has no float and isn't deep, by what is told.
use Rattle.std.proofs.Common.{map}
use Rattle.serde_json.specs.View.{view}
use Rattle.cj_c.proofs.Depths.{within_as}
use Rattle.cj_c.proofs.NoFloats.{free_as}
use Rattle.cj_c.proofs.WhyValues.{crons_free, crons_within, why_free, why_within}
use Rattle.cj_c.proofs.answers.why.why_text.Goals as goal

pub json_text-requires : goal.json_text-requires
json_text-requires c =
    let values = map view c.in_ok-values.values.items in
    let notes = c.as_slice.result.now in
    record {
      exact =
          free_as _ _ c.in_ok-value.ensures.ok (why_free c.args.now values notes
          (crons_free _ _ _ _ _ c.in_ok-values.ensures.ok));
      flat =
          within_as 127 _ _ c.in_ok-value.ensures.ok (why_within c.args.now values notes
          (crons_within 121 _ _ _ _ _ c.in_ok-values.ensures.ok));
    }
