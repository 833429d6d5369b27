-- audit_text: the value that it gives the text of has no float and isn't deep, by what is told.
use Rattle.cj_c.proofs.Depths.{within_as, audit_within}
use Rattle.cj_c.proofs.NoFloats.{free_as, audit_free}
use Rattle.cj_c.proofs.answers.audit.audit_text.Goals as goal

pub json_text-requires : goal.json_text-requires
json_text-requires c = record {
  exact = free_as _ _ c.in_ok-value.ensures.ok (audit_free c.args.list.now c.in_ok-findings.findings);
  flat = within_as 127 _ _ c.in_ok-value.ensures.ok (audit_within c.args.list.now c.in_ok-findings.findings);
}
