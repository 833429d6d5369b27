-- faulty_text: the value that it gives the text of has no float and isn't deep, by what is told.
use Rattle.cj_c.proofs.Depths.{within_as, faults_within}
use Rattle.cj_c.proofs.NoFloats.{free_as, faults_free}
use Rattle.cj_c.proofs.answers.check.faulty_text.Goals as goal

pub json_text-requires : goal.json_text-requires
json_text-requires c = record {
  exact = free_as _ _ c.in_ok-value.ensures.ok (faults_free c.args.faults.now);
  flat = within_as 127 _ _ c.in_ok-value.ensures.ok (faults_within 125 c.args.faults.now);
}
