-- The instants at which a clock is put, interval by interval.
use Rattle.std.proofs.Common.{◌≡◌, ◌<◌, ◌≤◌, ◌+◌, ◌-◌, ℕ, ℤ, false, not, cond, [], ◌∷◌, ◌++◌, sym, ap, ◌∙◌, arith}
use Rattle.std.specs.List.{range_with_len, filter}
use Rattle.std.specs.Ordering.{int_eq}
use Rattle.std.proofs.lemmas.Cmp.{int_eq_equiv}
use Rattle.cj_zone.specs.declared.zone.Zone.{Zone}
use Rattle.cj_zone.specs.Offset.{zone_offset}
use Rattle.cj_due.proofs.ListLemmas.{passing-add, passing-none}
use Rattle.cj_upcoming.specs.Changes.{changes, is_change}
use Rattle.cj_upcoming.proofs.Places.{filter_step}

-- A clock that is as far ahead as a second before isn't put.
same_not : (x y : ℤ) → x ≡ y → not (int_eq x y) ≡ false
same_not x y e = ap not (ap (λ a. int_eq a y) e ∙ int_eq_equiv.refl y)

-- Where the clock stays as it is up to the last instant, it isn't put.
pub changes_none : (z : Zone) (at same last : ℕ) → last ≤ same
    → ((t : ℕ) → at ≤ t → t ≤ same → zone_offset z t ≡ zone_offset z at) → changes z at last ≡ []
unfolding changes
changes_none z at same last past steady =
    passing-none (is_change z) (at + 1) (last - at) (λ t low high.
    same_not (zone_offset z t) (zone_offset z (t - 1))
    (steady t (omega arith) (omega arith) ∙ sym (steady (t - 1) (omega arith) (omega arith))))

-- From an instant that isn't before the last there is none.
pub changes_end : (z : Zone) (at last : ℕ) → last ≤ at → changes z at last ≡ []
unfolding changes
changes_end z at last past =
    let none : last - at ≡ 0 = omega arith in
    ap (λ n. filter (is_change z) (range_with_len (at + 1) n)) none

-- Where the clock stays as it is up to an instant, those after the one behind it are left, and perhaps that one.
pub changes_step : (z : Zone) (at same last : ℕ) → at ≤ same → same < last
    → ((t : ℕ) → at ≤ t → t ≤ same → zone_offset z t ≡ zone_offset z at)
    → changes z at last ≡ cond (is_change z (same + 1)) ((same + 1) ∷ []) [] ++ changes z (same + 1) last
unfolding changes
changes_step z at same last low high steady =
    let sum : last - at ≡ (same - at) + (last - same) = omega arith in
    let place : at + 1 + (same - at) ≡ same + 1 = omega arith in
    let count : last - same ≡ (last + 1) - (same + 1) = omega arith in
    let rest : (last + 1) - (same + 1 + 1) ≡ last - (same + 1) = omega arith in
    let none = passing-none (is_change z) (at + 1) (same - at) (λ t a b.
    same_not (zone_offset z t) (zone_offset z (t - 1))
    (steady t (omega arith) (omega arith) ∙ sym (steady (t - 1) (omega arith) (omega arith)))) in
    ap (λ n. filter (is_change z) (range_with_len (at + 1) n)) sum
    ∙ passing-add (is_change z) (at + 1) (same - at) (last - same)
    ∙ ap (λ xs. xs ++ filter (is_change z) (range_with_len (at + 1 + (same - at)) (last - same))) none
    ∙ ap (λ n. filter (is_change z) (range_with_len n (last - same))) place
    ∙ ap (λ n. filter (is_change z) (range_with_len (same + 1) n)) count
    ∙ filter_step (is_change z) (same + 1) (last + 1) (omega arith)
    ∙ ap (λ n. cond (is_change z (same + 1)) ((same + 1) ∷ []) []
    ++ filter (is_change z) (range_with_len (same + 1 + 1) n)) rest
