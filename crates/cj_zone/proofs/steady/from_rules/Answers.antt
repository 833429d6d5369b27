-- from_rules: its clause offsets, an interval whose two offsets are the same.
use Rattle.cj_zone.proofs.IntervalLemmas.{back_offset}
use Rattle.cj_zone.proofs.SteadyLemmas.{one_clock}
use Rattle.cj_zone.proofs.steady.from_rules.Goals as goal

pub returns-clause-offsets : goal.returns-clause-offsets
returns-clause-offsets c = rw (back_offset c.offset-offset.result.seconds c.offset-offset.result.in_range)
    (one_clock _ _ _ _ c.offset-offset.result.in_range c.offset-offset.ensures c.of_rules.ensures.steady)
