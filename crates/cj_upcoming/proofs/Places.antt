-- The rest of a list from one of its places on, and what is told of it.
use Rattle.std.proofs.Common.{◌≡◌, ◌<◌, ◌≤◌, ◌+◌, ◌-◌, ◌==◌, ℕ, zero, suc, Bool, true, false, ◌||◌, cond, List, [], ◌∷◌, ◌++◌, length, drop, map, filter, get_or, refl, sym, ap, ◌∙◌, arith, append_assoc, length-drop}
use Rattle.std.proofs.Math.Seq.{drop-cons}
use Rattle.std.proofs.lemmas.List.{length-map}
use Rattle.std.specs.List.{list_any, range_with_len}
use Rattle.cj_upcoming.specs.Lists.{behind, link}

module _ {A : Type 0} where
  -- The rest of a list from one of its places is the element there and what stands behind it.
  pub rest_at : (xs : List A) (i : ℕ) (x : A) → i < length xs → x ≡ get_or xs i x → drop i xs ≡ x ∷ drop (i + 1) xs
  rest_at xs i x inside at =
      let next : suc i ≡ i + 1 = omega arith in
      drop-cons xs i x inside ∙ ap (λ y. y ∷ drop (suc i) xs) (sym at) ∙ ap (λ n. x ∷ drop n xs) next

  -- Behind the end of a list there is nothing.
  pub past_end : (xs : List A) (i : ℕ) → length xs ≤ i → drop i xs ≡ []
  past_end [] zero h = refl
  past_end [] (suc i) h = refl
  past_end (x ∷ xs) zero h = absurd (omega arith)
  past_end (x ∷ xs) (suc i) h = past_end xs i (omega arith)

  -- For push_behind: the texts from a place on are the link and the text there, and those behind it.
  pub behind_step : (f : A → List ℕ) (xs : List A) (i : ℕ) (x : A) → i < length xs → x ≡ get_or xs i x
      → behind (map f (drop i xs)) ≡ (link (length xs - (i + 1) == 0) ++ f x) ++ behind (map f (drop (i + 1) xs))
  behind_step f xs i x inside at =
      let long : length (map f (drop (i + 1) xs)) ≡ length xs - (i + 1) =
      length-map (drop (i + 1) xs) f ∙ length-drop (i + 1) xs in
      ap (λ ys. behind (map f ys)) (rest_at xs i x inside at)
      ∙ ap (λ n. (link (n == 0) ++ f x) ++ behind (map f (drop (i + 1) xs))) long

-- What grew by a piece and is followed by a rest is what it was, followed by both.
pub grows : {A : Type 0} (old new piece rest whole : List A) → new ≡ old ++ piece → old ++ (piece ++ rest) ≡ whole
    → new ++ rest ≡ whole
grows old new piece rest whole e h = ap (λ x. x ++ rest) e ∙ append_assoc old piece rest ∙ h

-- The numbers from one on that pass a test are that one, if it passes, and those behind it.
pub filter_step : (p : ℕ → Bool) (n end : ℕ) → n < end
    → filter p (range_with_len n (end - n))
    ≡ cond (p n) (n ∷ []) [] ++ filter p (range_with_len (n + 1) (end - (n + 1)))
filter_step p n end h =
    let count : end - n ≡ suc (end - (n + 1)) = omega arith in
    ap (λ k. filter p (range_with_len n k)) count ∙ by (p n) (filter p (range_with_len (n + 1) (end - (n + 1))))
  where
    by : (b : Bool) (xs : List ℕ) → cond b (n ∷ xs) xs ≡ cond b (n ∷ []) [] ++ xs
    by true xs = refl
    by false xs = refl

-- One of the numbers from one on passes a test where that one does or one of those behind it.
pub any_step : (p : ℕ → Bool) (n end : ℕ) → n < end
    → list_any p (range_with_len n (end - n)) ≡ (p n || list_any p (range_with_len (n + 1) (end - (n + 1))))
any_step p n end h =
    let count : end - n ≡ suc (end - (n + 1)) = omega arith in
    ap (λ k. list_any p (range_with_len n k)) count

-- None of no numbers passes a test.
pub any_end : (p : ℕ → Bool) (n end : ℕ) → end ≤ n → list_any p (range_with_len n (end - n)) ≡ false
any_end p n end h =
    let count : end - n ≡ 0 = omega arith in
    ap (λ k. list_any p (range_with_len n k)) count

module _ (p : ℕ → Bool) (n end : ℕ) (whole : Bool) where
  -- Where a number doesn't pass, those behind it decide.
  pub any_pass : n < end → p n ≡ false → list_any p (range_with_len n (end - n)) ≡ whole
      → list_any p (range_with_len (n + 1) (end - (n + 1))) ≡ whole
  any_pass h off so_far =
      sym (any_step p n end h ∙ ap (λ b. b || list_any p (range_with_len (n + 1) (end - (n + 1)))) off) ∙ so_far

  -- Where a number passes, some do.
  pub any_found : n < end → p n ≡ true → list_any p (range_with_len n (end - n)) ≡ whole → true ≡ whole
  any_found h it so_far =
      sym (any_step p n end h ∙ ap (λ b. b || list_any p (range_with_len (n + 1) (end - (n + 1)))) it) ∙ so_far

  -- Behind the last none passes.
  pub any_over : end ≤ n → list_any p (range_with_len n (end - n)) ≡ whole → false ≡ whole
  any_over h so_far = sym (any_end p n end h) ∙ so_far
