-- fine_report: its ensures, from what was read: the answer's, and the value's.
use Rattle.std.proofs.Common.{inr}
use Rattle.cj_check.proofs.report.fine_report.Goals as goal

pub returns : goal.returns
returns c = λ bytes read. (
  c.in_ok-answer.ensures bytes read,
  inr (inr (record {
    manifest = c.args.manifest.now;
    warnings = c.args.warnings.now;
    reading = read;
    are = c.in_ok-value.ensures;
  })),
)
