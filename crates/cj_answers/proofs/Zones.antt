-- What a table of zones that is refused says.
use Rattle.std.proofs.Common.{◌≡◌, inl, inr}
use Rattle.cj_io.specs.declared.zone_files.refused.Refused.{Refused}
use Rattle.cj_io.specs.declared.zone_files.refused.Refused.TheVariants as Why
use Rattle.cj_io.specs.zone_files.Rules.{Refuses}

-- For given_zones: a refusal of a rule has its reason.
pub none_given : (e : Refused) (P : Type 0) → e ≡ Why.Zone → Refuses e P → P
none_given e P z (inl memory) = absurd (cc (z, memory))
none_given e P z (inr reason) = reason.1
