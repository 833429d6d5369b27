-- break_end: the offset behind a line break fits.
use Rattle.std.proofs.Common.{arith}
use Rattle.cj_yaml.proofs.Breaks.{break_sum}
use Rattle.cj_yaml.proofs.chars.break_end.Goals as goal

pub returns : goal.returns
returns c =
    let one = c.break_len.ensures in
    break_sum c.args.text.now c.args.at c.saturating_add.result (omega arith) (omega arith) (omega (arith, one))
