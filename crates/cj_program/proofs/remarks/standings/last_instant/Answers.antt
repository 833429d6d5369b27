-- last_instant: its ensures, by the number of instants.
use Rattle.std.proofs.Common.{arith}
use Rattle.cj_program.proofs.remarks.standings.last_instant.Goals as goal

pub returns-in-Some : goal.returns-in-Some
returns-in-Some c =
    let first = (c.count.ensures 0).1 c.start-start.ensures.within in
    let number = c.saturating_sub-number.ensures in
    record {
      number = c.saturating_sub-number.result;
      has = (c.count.ensures c.saturating_sub-number.result).0 (omega (arith, first, number));
      is = c.in-Some.ensures.value;
      last = λ n k. (let m = (c.count.ensures n).1 k in omega (arith, m, number));
    }
