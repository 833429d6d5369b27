-- A zone in contracts.
use Rattle.std.specs.Prelude.{ℕ, List}
use Rattle.cj_zone.specs.declared.source.Source.{Source}

-- the zone's name, and the source of its clock
pub record NamedSource : Type 0 where
  pub name : List ℕ
  pub source : Source
