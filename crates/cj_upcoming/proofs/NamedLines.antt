-- The lines of local times that are skipped or come twice, one after another.
use Rattle.std.proofs.Common.{◌≡◌, ◌<◌, ◌≤◌, ◌+◌, ℕ, List, [], ◌∷◌, ◌++◌, length, drop, get_or, refl, sym, subst, append_assoc, append-nil}
use Rattle.std.proofs.lemmas.List.{drop_all}
use Rattle.cj_schedule.specs.Matches.{Sets}
use Rattle.cj_zone.specs.declared.zone.Zone.{Zone}
use Rattle.cj_upcoming.proofs.Places.{rest_at}
use Rattle.cj_upcoming.specs.Named.{AreNamedLines, IsNamedLine}

-- with the lines of the rest behind these, they are those of all
pub record Leads (s : Sets) (z u : Zone) (all rest lines : List ℕ) : Type 0 where
  pub whole : (more : List ℕ) → AreNamedLines s z u rest more → AreNamedLines s z u all (lines ++ more)

-- For named_lines: before the first change there is no line.
pub leads_none : (s : Sets) (z u : Zone) (all lines : List ℕ) → lines ≡ [] → Leads s z u all all lines
leads_none s z u all lines is = record {
  whole = λ more h. subst (λ xs. AreNamedLines s z u all (xs ++ more)) (sym is) h;
}

-- With the line of the next change, if it has one, the lines go on.
leads_change : (s : Sets) (z u : Zone) (all rest lines line : List ℕ) (t : ℕ) → Leads s z u all (t ∷ rest) lines
    → IsNamedLine s z u t line → Leads s z u all rest (lines ++ line)
leads_change s z u all rest lines line t leads is = record {
  whole = λ more h. subst (AreNamedLines s z u all) (sym (append_assoc lines line more))
      (leads.whole (line ++ more) (line, more, is, h, refl));
}

-- For named_lines: so it is with the change at a place.
pub leads_at : (s : Sets) (z u : Zone) (changes : List ℕ) (i x : ℕ) (lines line longer : List ℕ) → i < length changes
    → x ≡ get_or changes i x → Leads s z u changes (drop i changes) lines → IsNamedLine s z u x line
    → longer ≡ lines ++ line → Leads s z u changes (drop (i + 1) changes) longer
leads_at s z u changes i x lines line longer inside at leads is longer_is =
    subst (Leads s z u changes (drop (i + 1) changes)) (sym longer_is)
    (leads_change s z u changes (drop (i + 1) changes) lines line x
    (subst (λ xs. Leads s z u changes xs lines) (rest_at changes i x inside at) leads) is)

-- For leads_end: where no change is left, they are the lines of all.
leads_done : (s : Sets) (z u : Zone) (all lines : List ℕ) → Leads s z u all [] lines → AreNamedLines s z u all lines
leads_done s z u all lines leads = subst (AreNamedLines s z u all) (append-nil lines) (leads.whole [] refl)

-- For named_lines: so it is behind the last change.
pub leads_end : (s : Sets) (z u : Zone) (changes : List ℕ) (i : ℕ) (lines : List ℕ) → length changes ≤ i
    → Leads s z u changes (drop i changes) lines → AreNamedLines s z u changes lines
leads_end s z u changes i lines past leads =
    leads_done s z u changes lines (subst (λ xs. Leads s z u changes xs lines) (drop_all i changes past) leads)
