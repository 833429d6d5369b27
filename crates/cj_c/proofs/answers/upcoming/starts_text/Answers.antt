-- starts_text: the value that it gives the text of has no float and isn't deep, by what is told.
use Rattle.cj_c.proofs.Depths.{within_as}
use Rattle.cj_c.proofs.NoFloats.{free_as}
use Rattle.cj_c.proofs.ComingValues.{upcoming_free, upcoming_within}
use Rattle.cj_c.proofs.answers.upcoming.starts_text.Goals as goal

pub json_text-requires : goal.json_text-requires
json_text-requires c = record {
  exact =
      free_as _ _ c.in_ok-value.ensures.ok (upcoming_free _ _ c.args.crons.now c.args.most c.args.starts.now
      c.args.notes.now _ _ c.in_ok-files.ensures.ok c.in_ok-parts.ensures.ok);
  flat =
      within_as 127 _ _ c.in_ok-value.ensures.ok (upcoming_within _ _ c.args.crons.now c.args.most
      c.args.starts.now c.args.notes.now _ _ c.in_ok-files.ensures.ok c.in_ok-parts.ensures.ok);
}
