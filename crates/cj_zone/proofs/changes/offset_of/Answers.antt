-- offset_of: its clause value, by the tables that the zone of jiff has.
use Rattle.std.proofs.Common.{◌∙◌, refl}
use Rattle.jiff_tz.specs.Zone.{offset_at}
use Rattle.cj_zone.proofs.ClockLemmas.{wide_seconds}
use Rattle.cj_zone.proofs.changes.offset_of.Goals as goal

pub returns-clause-value : goal.returns-clause-value
unfolding offset_at
returns-clause-value c =
    rw c.seconds.ensures (wide_seconds c.to_offset.result.seconds c.to_offset.result.in_range ∙ c.to_offset.ensures
    ∙ rw (c.tzif.ensures, c.from_plain-instant.ensures, c.timestamp.ensures) refl)
