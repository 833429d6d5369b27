-- A zone that was added to others under a name that was free is the one of that name.
use Rattle.std.proofs.Common.{◌≡◌, ◌∙◌, ap, ℕ, List, [], ◌∷◌, ◌++◌, Bool, true, false, Option, Some, None, refl}
use Rattle.std.specs.Prelude.{is_some, cond, length, ◌==◌, ◌||◌, codes}
use Rattle.std.specs.Option.{option_or}
use Rattle.std.specs.Cmp.Lexicographic.{pointwise}
use Rattle.std.proofs.lemmas.Cmp.{nat_list_eq_equiv}
use Rattle.std.proofs.lemmas.List.Folds.{find-append}
use Rattle.cj_zone.specs.declared.zone.Zone.{Zone}
use Rattle.cj_zone.specs.Zones.{is_named, is_refused_name, zone_named}

-- For none_there: a name that isn't refused is nobody's.
none_by : (a b : Bool) (o : Option Zone) → ((a || b) || is_some o) ≡ false → o ≡ None
none_by true b o e = absurd cc
none_by false true o e = absurd cc
none_by false false None e = refl
none_by false false (Some z) e = absurd cc

-- For added_found: no zone has a name that may be added.
none_there : (zones : List Zone) (name : List ℕ) → is_refused_name zones name ≡ false → zone_named name zones ≡ None
none_there zones name free =
    none_by (length name == 0) (pointwise ◌==◌ name (codes "Local")) (zone_named name zones) free

-- For added_found: a zone has its name.
named_so : (zone : Zone) (name : List ℕ) → zone.name ≡ name → is_named name zone ≡ true
named_so zone name e = ap (λ (n : List ℕ). pointwise ◌==◌ n name) e ∙ nat_list_eq_equiv.refl name

-- For added_found: behind none of the name comes the one that was added.
found_behind : (o : Option Zone) (b : Bool) (zone : Zone) → o ≡ None → b ≡ true
    → option_or o (cond b (Some zone) None) ≡ Some zone
found_behind o b zone none is = rw (none, is) refl

-- For zones_of_rule: the zone that was added is found by its name.
pub added_found : (zones : List Zone) (zone : Zone) (name : List ℕ) → is_refused_name zones name ≡ false
    → zone.name ≡ name
    → zone_named name (zones ++ zone ∷ []) ≡ Some zone
added_found zones zone name free is =
    find-append (is_named name) zones (zone ∷ [])
    ∙ found_behind (zone_named name zones) (is_named name zone) zone (none_there zones name free)
    (named_so zone name is)
