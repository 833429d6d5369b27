-- part: what stands there; nothing past the end.
use Rattle.std.proofs.Common.{arith}
use Rattle.cj_yaml.proofs.PlainEnds.{none_past}
use Rattle.cj_yaml.proofs.chars.part.Goals as goal

pub returns-else-from-to : goal.returns-else-from-to
returns-else-from-to c =
    record {
      whole = λ t rest there e.
          none_past c.args.text.now c.args.from c.args.to t rest there e (omega (arith, e));
    }
