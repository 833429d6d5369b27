-- given_zones: its clause given where a rule is refused, as there is no table then.
use Rattle.std.proofs.Common.{List, ℕ, map, subst}
use Rattle.std.specs.Borrow.{Bor}
use Rattle.cj_zone.specs.declared.zone.Zone.{Zone}
use Rattle.cj_io.specs.zone_files.Files.{IsTableWith}
use Rattle.cj_answers.proofs.Zones.{none_given}
use Rattle.cj_answers.proofs.given.given_zones.Goals as goal

pub returns-in-Err-Zone-clause-given : goal.returns-in-Err-Zone-clause-given
returns-in-Err-Zone-clause-given c =
    subst (λ (rules : List (Bor (List ℕ))). (zones : List Zone)
    → IsTableWith (map (λ r. r.now) rules) c.args.files.now zones → ⊥) c.as_slice.ensures.value
    (none_given c.in-Err-Zone.field-0 _ c.in-Err-Zone.field-0-is c.in-Err-Zone.ensures.refused)
