-- A walk over a list by which a set of findings grows: what is still to come is told by the rest of the list.
use Rattle.std.proofs.Common.{◌≡◌, ◌⊎◌, inl, inr, ◌<◌, ◌≤◌, ◌+◌, ◌-◌, ℕ, zero, suc, Bool, List, [], ◌∷◌, length, take, drop, get_or, refl, sym, ap, ◌∙◌, subst, arith}
use Rattle.std.proofs.Math.Seq.{drop-cons}
use Rattle.std.proofs.lemmas.Grind.{common_steps}
use Rattle.std.specs.BTreeSet.{BTreeSet}
use Rattle.std.specs.List.{AllByRecursion}
use Rattle.cj_status.specs.Order.{IsRising}
use Rattle.cj_audit.specs.declared.finding.Finding.{Finding}
use Rattle.cj_audit.specs.Notes.{Notes, AnyOf}
use Rattle.cj_audit.proofs.Members.{IsIn}
use Rattle.cj_audit.proofs.Noting.{notes_then, notes_as, notes_none}

-- what gains from here on what is told of the rest of the list has gained from the start what is told of all of it
pub record Leads {A : Type 0} (Q : List A → Finding → Type 0) (xs : List A) (i : ℕ) (old now : BTreeSet Finding)
    : Type 0 where
  pub goes_on : (last : BTreeSet Finding) → Notes (Q (drop i xs)) now last → Notes (Q xs) old last

module _ {A : Type 0} where
  -- the rest of a list from one of its places
  pub rest_at : (xs : List A) (i : ℕ) (x : A) → i < length xs → x ≡ get_or xs i x → drop i xs ≡ x ∷ drop (i + 1) xs
  rest_at xs i x inside at =
      let next : suc i ≡ i + 1 = omega arith in
      drop-cons xs i x inside ∙ ap (λ y. y ∷ drop (suc i) xs) (sym at) ∙ ap (λ n. x ∷ drop n xs) next

  -- Behind the end of a list there is nothing.
  pub past_end : (xs : List A) (i : ℕ) → length xs ≤ i → drop i xs ≡ []
  past_end [] zero h = refl
  past_end [] (suc i) h = refl
  past_end (x ∷ xs) zero h = absurd (omega arith)
  past_end (x ∷ xs) (suc i) h = past_end xs i (omega arith)

  -- What a slice from a place on has is the rest of the list.
  pub from_place : (xs : List A) (i : ℕ) → take (length xs - i) (drop i xs) ≡ drop i xs
  from_place xs i = grind (arith, common_steps)

  -- A walk begins with all of the list.
  pub leads_start : (Q : List A → Finding → Type 0) (xs : List A) (s : BTreeSet Finding) → Leads Q xs 0 s s
  leads_start Q xs s = record { goes_on = λ last n. n }

  -- A walk goes on by what is told of the element at the place.
  pub leads_step : (Q : List A → Finding → Type 0) (P : Finding → Type 0) (xs : List A) (i : ℕ) (x : A)
      (old now next : BTreeSet Finding) → ((f : Finding) → Q (x ∷ drop (i + 1) xs) f → P f ⊎ Q (drop (i + 1) xs) f)
      → ((f : Finding) → P f ⊎ Q (drop (i + 1) xs) f → Q (x ∷ drop (i + 1) xs) f) → i < length xs → x ≡ get_or xs i x
      → Leads Q xs i old now → Notes P now next → Leads Q xs (i + 1) old next
  leads_step Q P xs i x old now next from to inside at leads n = record {
    goes_on = λ last m. leads.goes_on last (
        subst (λ ys. Notes (Q ys) now last) (sym (rest_at xs i x inside at))
        (notes_as (λ f. P f ⊎ Q (drop (i + 1) xs) f) (Q (x ∷ drop (i + 1) xs)) now last to from
        (notes_then P (Q (drop (i + 1) xs)) now next last n m))
        );
  }

  -- A walk may end where nothing is told of the rest.
  pub leads_end : (Q : List A → Finding → Type 0) (xs : List A) (i : ℕ) (old now : BTreeSet Finding)
      → ((f : Finding) → Q (drop i xs) f → ⊥) → Leads Q xs i old now → Notes (Q xs) old now
  leads_end Q xs i old now none leads = leads.goes_on now (notes_none (Q (drop i xs)) now none)

  -- A walk ends at the end of the list.
  pub leads_done : (Q : List A → Finding → Type 0) (xs : List A) (i : ℕ) (old now : BTreeSet Finding)
      → ((f : Finding) → Q [] f → ⊥) → length xs ≤ i → Leads Q xs i old now → Notes (Q xs) old now
  leads_done Q xs i old now none past leads =
      leads_end Q xs i old now (λ f h. none f (subst (λ ys. Q ys f) (past_end xs i past) h)) leads

  -- Where P holds of the element at a place, what the rest asks is all that is asked still.
  pub each_step : (P : A → Type 0) (xs : List A) (i : ℕ) (x : A) → i < length xs → x ≡ get_or xs i x → P x
      → (AllByRecursion P (drop i xs) → AllByRecursion P xs) → AllByRecursion P (drop (i + 1) xs) → AllByRecursion P xs
  each_step P xs i x inside at p so_far rest =
      so_far (subst (λ ys. AllByRecursion P ys) (sym (rest_at xs i x inside at)) (p, rest))

  -- At the end nothing is asked.
  pub each_done : (P : A → Type 0) (xs : List A) (i : ℕ) → length xs ≤ i
      → (AllByRecursion P (drop i xs) → AllByRecursion P xs) → AllByRecursion P xs
  each_done P xs i past so_far =
      so_far (subst (λ ys. AllByRecursion P ys) (sym (past_end xs i past)) tt)

  -- Where P holds of an element and a finding, it does so of one that stands in the list.
  pub any_in : (P : A → Finding → Type 0) (xs : List A) (f : Finding) → AnyOf P xs f → (x : A) × (IsIn x xs × P x f)
  any_in P [] f h = absurd h
  any_in P (x ∷ xs) f (inl p) = (x, (inl refl, p))
  any_in P (x ∷ xs) f (inr rest) = behind (any_in P xs f rest)
    where
      behind : (y : A) × (IsIn y xs × P y f) → (y : A) × (IsIn y (x ∷ xs) × P y f)
      behind (y, (inside, p)) = (y, (inr inside, p))

  -- And the other way round.
  pub in_any : (P : A → Finding → Type 0) (xs : List A) (f : Finding) (x : A) → IsIn x xs → P x f → AnyOf P xs f
  in_any P [] f x h p = absurd h
  in_any P (y ∷ xs) f x (inl is) p = inl (subst (λ z. P z f) is p)
  in_any P (y ∷ xs) f x (inr rest) p = inr (in_any P xs f x rest p)

  -- What is left of a rising list rises.
  pub rising_drop : (lt : A → A → Bool) (xs : List A) (i : ℕ) → IsRising lt xs → IsRising lt (drop i xs)
  rising_drop lt [] zero h = h
  rising_drop lt [] (suc i) h = h
  rising_drop lt (x ∷ xs) zero h = h
  rising_drop lt (x ∷ xs) (suc i) h = rising_drop lt xs i h.1

  -- What holds of all of a list holds of all that is left of it.
  pub all_drop : (P : A → Type 0) (xs : List A) (i : ℕ) → AllByRecursion P xs → AllByRecursion P (drop i xs)
  all_drop P [] zero h = h
  all_drop P [] (suc i) h = h
  all_drop P (x ∷ xs) zero h = h
  all_drop P (x ∷ xs) (suc i) h = all_drop P xs i h.1
