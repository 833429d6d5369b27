-- Marks::tell: its clause marks, from what an insert does to the set.
use Rattle.std.proofs.Common.{sym, subst}
use Rattle.cj_history.specs.gaps.reading.Known.{Tells}
use Rattle.cj_history.proofs.GapsLemmas.Known.{tells_one}
use Rattle.cj_history.proofs.gaps.marks.Marks.tell.Goals as goal

pub returns-in-Ok-clause-marks : goal.returns-in-Ok-clause-marks
returns-in-Ok-clause-marks c =
    subst (λ o. Tells o c.args.self.now.marks c.insert.new.self) (sym c.in-Some.is)
    (tells_one c.in-Some.mark c.args.self.now.marks c.insert.new.self c.in-Ok.ensures.updates)
