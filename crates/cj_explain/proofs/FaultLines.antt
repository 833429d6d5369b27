-- The lines of faults, one after another.
use Rattle.std.proofs.Common.{◌≡◌, ◌<◌, ◌≤◌, ◌+◌, ◌∙◌, ℕ, zero, suc, List, [], ◌∷◌, ◌++◌, length, drop, get_or, Option, refl, sym, ap, subst, append_assoc, append-nil, arith}
use Rattle.std.proofs.lemmas.List.{drop_all}
use Rattle.std.proofs.Math.Seq.{drop-cons}
use Rattle.cj_base.specs.declared.faults.FieldFault.{FieldFault}
use Rattle.cj_explain.specs.Faults.{AreFaultLines, IsFaultLine}

-- with the lines of the rest behind these, they are those of all
pub record Leads (text : Option (List ℕ)) (all rest : List FieldFault) (lines : List ℕ) : Type 0 where
  pub whole : (more : List ℕ) → AreFaultLines text rest more → AreFaultLines text all (lines ++ more)

-- For explain_faults: before the first fault there is no line.
pub leads_none : (text : Option (List ℕ)) (all : List FieldFault) (lines : List ℕ) → lines ≡ []
    → Leads text all all lines
leads_none text all lines is = record {
  whole = λ more h. subst (λ xs. AreFaultLines text all (xs ++ more)) (sym is) h;
}

-- From one of its places on a list is what stands there and the rest behind it.
rest_at : (faults : List FieldFault) (i : ℕ) (x : FieldFault) → i < length faults → x ≡ get_or faults i x
    → drop i faults ≡ x ∷ drop (i + 1) faults
rest_at faults i x inside at =
    let next : suc i ≡ i + 1 = omega arith in
    drop-cons faults i x inside ∙ ap (λ y. y ∷ drop (suc i) faults) (sym at) ∙ ap (λ n. x ∷ drop n faults) next

-- With the line of the next fault the lines go on.
leads_fault : (text : Option (List ℕ)) (all rest : List FieldFault) (f : FieldFault) (lines line : List ℕ)
    → Leads text all (f ∷ rest) lines → IsFaultLine text f line → Leads text all rest (lines ++ line)
leads_fault text all rest f lines line leads is = record {
  whole = λ more h. subst (AreFaultLines text all) (sym (append_assoc lines line more))
      (leads.whole (line ++ more) (line, more, is, h, refl));
}

-- For leads_get: so it is with a fault that stands at a place.
leads_at : (text : Option (List ℕ)) (faults : List FieldFault) (i : ℕ) (x : FieldFault) (lines line longer : List ℕ)
    → i < length faults → x ≡ get_or faults i x → Leads text faults (drop i faults) lines → IsFaultLine text x line
    → longer ≡ lines ++ line → Leads text faults (drop (i + 1) faults) longer
leads_at text faults i x lines line longer inside at leads is longer_is =
    subst (Leads text faults (drop (i + 1) faults)) (sym longer_is)
    (leads_fault text faults (drop (i + 1) faults) x lines line
    (subst (λ xs. Leads text faults xs lines) (rest_at faults i x inside at) leads) is)

-- For explain_faults: so it is with the fault that stands at a place, whatever stood there if none did.
pub leads_get : (text : Option (List ℕ)) (faults : List FieldFault) (i : ℕ) (d : FieldFault)
    (lines line longer : List ℕ)
    → i < length faults → Leads text faults (drop i faults) lines → IsFaultLine text (get_or faults i d) line
    → longer ≡ lines ++ line → Leads text faults (drop (i + 1) faults) longer
leads_get text faults i d lines line longer inside leads is longer_is =
    leads_at text faults i (get_or faults i d) lines line longer inside (same faults i d inside) leads is longer_is
  where
    same : (xs : List FieldFault) (n : ℕ) (y : FieldFault) → n < length xs → get_or xs n y ≡ get_or xs n (get_or xs n y)
    same [] n y h = refl
    same (x ∷ xs) zero y h = refl
    same (x ∷ xs) (suc n) y h = same xs n y (omega (arith, h))

-- For leads_end: where no fault is left, they are the lines of all.
leads_done : (text : Option (List ℕ)) (all : List FieldFault) (lines : List ℕ) → Leads text all [] lines
    → AreFaultLines text all lines
leads_done text all lines leads = subst (AreFaultLines text all) (append-nil lines) (leads.whole [] refl)

-- For explain_faults: so it is behind the last fault.
pub leads_end : (text : Option (List ℕ)) (faults : List FieldFault) (i : ℕ) (lines : List ℕ) → length faults ≤ i
    → Leads text faults (drop i faults) lines → AreFaultLines text faults lines
leads_end text faults i lines past leads =
    leads_done text faults lines (subst (λ xs. Leads text faults xs lines) (drop_all i faults past) leads)
