-- The least due instant is the first of the list of due times.
use Rattle.std.proofs.Common.{◌≡◌, ℕ, zero, suc, ◌+◌, ◌-◌, ◌<◌, ◌≤◌, Bool, true, false, if◌then◌else◌, List, [], ◌∷◌, refl, sym, ap, ◌∙◌, arith, inl, inr}
use Rattle.std.proofs.lemmas.Bool.{cases_lt}
use Rattle.cj_schedule.specs.Matches.{Sets}
use Rattle.cj_zone.specs.declared.zone.Zone.{Zone}
use Rattle.cj_due.specs.Due.{due, missed_times, IsQuiet, IsLeastDue}
use Rattle.cj_due.specs.DueTimes.{due_times}
use Rattle.cj_due.proofs.ListLemmas.{passing}

-- the first number of an interval that passes, and the others that pass
pub record IsFirstPassing (p : ℕ → Bool) (a n t : ℕ) (rest : List ℕ) : Type 0 where
  pub above : a ≤ t
  pub below : t < a + n
  pub passes : p t ≡ true
  pub least : (k : ℕ) → a ≤ k → k < t → p k ≡ false
  pub others : rest ≡ passing p (t + 1) (a + n - (t + 1))

-- Those that pass, by whether the first number does.
by_first : (p : ℕ → Bool) (a n : ℕ) (b : Bool) → p a ≡ b
    → passing p a (suc n) ≡ (if b then a ∷ passing p (a + 1) n else passing p (a + 1) n)
by_first p a n b e = ap (λ test. if test then a ∷ passing p (a + 1) n else passing p (a + 1) n) e

-- Where the first number passes, it is the first that does.
first_here : (p : ℕ → Bool) (a n t : ℕ) (rest : List ℕ) → p a ≡ true → a ∷ passing p (a + 1) n ≡ t ∷ rest
    → IsFirstPassing p a (suc n) t rest
first_here p a n t rest e h =
    let same : a ≡ t = cc in
    let tail : passing p (a + 1) n ≡ rest = cc in
    let start : a + 1 ≡ t + 1 = omega arith in
    let count : n ≡ a + suc n - (t + 1) = omega arith in
    record {
      above = omega arith;
      below = omega arith;
      passes = ap p (sym same) ∙ e;
      least = λ k above below. absurd (omega arith);
      others = sym tail ∙ ap (λ m. passing p m n) start ∙ ap (passing p (t + 1)) count;
    }

-- Else it is the first of the other numbers that does.
first_later : (p : ℕ → Bool) (a n t : ℕ) (rest : List ℕ) → p a ≡ false → IsFirstPassing p (a + 1) n t rest
    → IsFirstPassing p a (suc n) t rest
first_later p a n t rest e h =
    let above = h.above in
    let below = h.below in
    let count : a + 1 + n - (t + 1) ≡ a + suc n - (t + 1) = omega arith in
    record {
      above = omega arith;
      below = omega arith;
      passes = h.passes;
      least = λ k from before. elim (cases_lt a k) [
        | inl later ↦ h.least k (omega arith) before
        | inr here ↦ let same : k ≡ a = omega arith in ap p same ∙ e
      ];
      others = h.others ∙ ap (passing p (t + 1)) count;
    }

-- The same, by whether the first number passes.
first_by : (p : ℕ → Bool) (a n t : ℕ) (rest : List ℕ) (b : Bool) → p a ≡ b → passing p a (suc n) ≡ t ∷ rest
    → (passing p (a + 1) n ≡ t ∷ rest → IsFirstPassing p (a + 1) n t rest) → IsFirstPassing p a (suc n) t rest
first_by p a n t rest true e h more = first_here p a n t rest e (sym (by_first p a n true e) ∙ h)
first_by p a n t rest false e h more = first_later p a n t rest e (more (sym (by_first p a n false e) ∙ h))

-- The first of the list of those that pass is the least of them, and the others are those after it.
pub first_passing : (p : ℕ → Bool) (a n t : ℕ) (rest : List ℕ) → passing p a n ≡ t ∷ rest
    → IsFirstPassing p a n t rest
first_passing p a zero t rest h = absurd (cc)
first_passing p a (suc n) t rest h =
    first_by p a n t rest (p a) refl h (λ e. first_passing p (a + 1) n t rest e)

-- Where the first number passes, the list isn't empty.
none_by : (p : ℕ → Bool) (a n : ℕ) (b : Bool) → p a ≡ b → passing p a (suc n) ≡ []
    → (p a ≡ false) × (passing p (a + 1) n ≡ [])
none_by p a n true e h = let some : a ∷ passing p (a + 1) n ≡ [] = sym (by_first p a n true e) ∙ h in absurd (cc)
none_by p a n false e h = (e, sym (by_first p a n false e) ∙ h)

-- Where the list of those that pass is empty, none passes.
pub none_passing : (p : ℕ → Bool) (a n : ℕ) → passing p a n ≡ [] → (t : ℕ) → a ≤ t → t < a + n → p t ≡ false
none_passing p a zero h t above below = absurd (omega arith)
none_passing p a (suc n) h t above below =
    let both = none_by p a n (p a) refl h in
    elim (cases_lt a t) [
      | inl later ↦ none_passing p (a + 1) n both.1 t (omega arith) (omega arith)
      | inr here ↦ let same : t ≡ a = omega arith in ap p same ∙ both.0
    ]

-- the same of due times
-- The first of the due times that are left is the least due instant, and the others are those after it.
pub first_due : (s : Sets) (z : Zone) (at end t : ℕ) (rest : List ℕ) → due_times s z at end ≡ t ∷ rest
    → IsLeastDue s z at end t × (rest ≡ due_times s z t end)
unfolding missed_times
first_due s z at end t rest h =
    let first = first_passing (due s z) (at + 1) (end - at) t rest h in
    let above = first.above in
    let below = first.below in
    let start : at + 1 + (end - at) - (t + 1) ≡ end - t = omega arith in (
      record {
        above = omega arith;
        within = omega arith;
        is_due = first.passes;
        least = λ k from before. first.least k (omega arith) before;
      },
      first.others ∙ ap (passing (due s z) (t + 1)) start,
    )

-- Where none are left, nothing is due up to the end.
pub none_due : (s : Sets) (z : Zone) (at end : ℕ) → due_times s z at end ≡ [] → IsQuiet s z at end
unfolding missed_times
none_due s z at end h = λ t above within. none_passing (due s z) (at + 1) (end - at) h t (omega arith) (omega arith)
