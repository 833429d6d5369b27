-- The parts of a name that may be looked up in a folder.
use Rattle.std.proofs.Common.{◌≡◌, ◌&&◌, ◌==◌, ℕ, List, Bool, true, false, nat_le, length, get_or, subst}
use Rattle.std.specs.List.{slice_split}
use Rattle.std.proofs.lemmas.List.Sums.{AllPass-from_list_all}
use Rattle.cj_io.specs.zone_files.FileName.{LeadsIn, StayBelow, has_parts_alone, is_part}

-- For stay_below: the last of three tests that hold together.
last_holds : (a b c : Bool) → (a && b && c) ≡ true → c ≡ true
last_holds true true c h = h
last_holds true false c h = absurd (cc h)
last_holds false b c h = absurd (cc h)

-- For stay_below: a part of letters, digits, `_`, `+` and `-` leads on into a folder.
leads_in : (part : List ℕ) → is_part part ≡ true → LeadsIn part
leads_in part h = record {
  some = λ e. let wrong : false ≡ true = subst (λ p. is_part p ≡ true) e h in absurd (cc wrong);
  here = λ e. let wrong : false ≡ true = subst (λ p. is_part p ≡ true) e h in absurd (cc wrong);
  above = λ e. let wrong : false ≡ true = subst (λ p. is_part p ≡ true) e h in absurd (cc wrong);
}

-- Each part of such a name leads on into a folder.
pub stay_below : StayBelow
stay_below name h k d lt =
    let pass = AllPass-from_list_all is_part (slice_split (λ b. b == 47) name)
    (last_holds (nat_le 1 (length name)) (nat_le (length name) 255) (has_parts_alone name) h) in
    leads_in (get_or (slice_split (λ b. b == 47) name) k d) (pass k d lt)
