-- One interval after another.
use Rattle.std.proofs.Common.{◌≡◌, ℕ, ◌<◌, ◌≤◌, false, inl, inr, refl, arith, Option, None, Some, IsNone, IfSome}
use Rattle.std.proofs.lemmas.Bool.{cases_lt}
use Rattle.std.specs.Option.{is_some}
use Rattle.cj_schedule.specs.Matches.{Sets}
use Rattle.cj_zone.specs.declared.zone.Zone.{Zone}
use Rattle.cj_due.specs.Due.{due, IsLeastDue}

-- What tests as nothing found is nothing.
pub none_left : (o : Option ℕ) → is_some o ≡ false → IsNone o
none_left None e = refl
none_left (Some t) e = cc

-- The least due instant of a part is that of the whole, where nothing is due before the part.
pub found_in : (s : Sets) (z : Zone) (lo at end hi : ℕ) (o : Option ℕ) → lo ≤ at → end ≤ hi
    → ((t : ℕ) → lo < t → t ≤ at → due s z t ≡ false) → IfSome o (λ t. IsLeastDue s z at end t)
    → IfSome o (λ t. IsLeastDue s z lo hi t)
found_in s z lo at end hi None a b quiet h = h
found_in s z lo at end hi (Some t) a b quiet h = record {
  above = omega (arith, h.above);
  within = omega (arith, h.within);
  is_due = h.is_due;
  least = λ k above below. elim (cases_lt at k) [
    | inl later ↦ h.least k later below
    | inr before ↦ quiet k above before
  ];
}
