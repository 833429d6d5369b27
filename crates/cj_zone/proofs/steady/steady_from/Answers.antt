-- steady_from: its clause offsets, since the zone's clock is that of its rules.
use Rattle.cj_zone.proofs.ClockLemmas.{zone_offset-clock}
use Rattle.cj_zone.proofs.IntervalLemmas.{same_clock}
use Rattle.cj_zone.proofs.steady.steady_from.Goals as goal

pub returns-clause-offsets : goal.returns-clause-offsets
returns-clause-offsets c = same_clock _ _ _ _ _ _
    (λ t. zone_offset-clock c.args.zone.now _ t c.rules.ensures) c.from_rules.ensures.offsets
