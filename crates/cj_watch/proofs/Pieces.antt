-- Parts of a list.
use Rattle.std.proofs.Common.{◌≡◌, ℕ, ◌+◌, ◌-◌, ◌<◌, ◌≤◌, min, List, [], ◌∷◌, ◌++◌, length, take, drop, get_or, Some, slice_get, ap, sym, refl, ◌∙◌, nat_lt, true, false, arith, length-drop, length-append}
use Rattle.std.proofs.Math.ListN.{drop_of_length-le}
use Rattle.std.proofs.lemmas.List.{take_more, take_min, get_or-drop, drop-drop, drop-append-le}
use Rattle.std.proofs.lemmas.Option.{get_or_from_slice_get}
use Rattle.std.proofs.lemmas.Bool.Decides.{nat_tests}

module _ {X : Type 0} where
  -- one more item of a piece
  pub piece_more : (xs : List X) (s i : ℕ) (e : X) → s ≤ i → i < length xs → slice_get xs i ≡ Some e
      → take (i + 1 - s) (drop s xs) ≡ take (i - s) (drop s xs) ++ e ∷ []
  piece_more xs s i e le lt h =
      let one : i + 1 - s ≡ (i - s) + 1 = omega arith in
      let whole : s + (i - s) ≡ i = omega arith in
      let within : i - s < length (drop s xs) = omega (arith, length-drop s xs) in
      ap (λ t. take t (drop s xs)) one ∙ take_more (drop s xs) (i - s) e within
      ∙ ap (λ x. take (i - s) (drop s xs) ++ x ∷ []) (get_or-drop s xs (i - s) e ∙ ap (λ t. get_or xs t e) whole
      ∙ get_or_from_slice_get xs i e e h)

  -- To drop k of a list, or all where it has fewer than k, is to drop k.
  drop_min : (xs : List X) (k : ℕ) → drop (min k (length xs)) xs ≡ drop k xs
  drop_min xs k =
      elim (nat_lt k (length xs)) as (λ b. nat_lt k (length xs) ≡ b → drop (min k (length xs)) xs ≡ drop k xs) [
        | true ↦ λ t.
            let lt : k < length xs = grind (arith, nat_tests) in
            let same : min k (length xs) ≡ k = omega arith in
            ap (λ n. drop n xs) same
        | false ↦ λ t.
            let le : length xs ≤ k = grind (arith, nat_tests) in
            let least : length xs ≤ min k (length xs) = omega arith in
            drop_of_length-le xs least ∙ sym (drop_of_length-le xs le)
      ] refl

  -- a piece that ends at the end of the list, if not before
  pub piece_is : (xs : List X) (k m start end : ℕ) → start ≡ min k (length xs) → end ≡ min (length xs) (start + m)
      → take (end - start) (drop start xs) ≡ take m (drop k xs)
  piece_is xs k m start end a b =
      let long : end - start ≡ min m (length (drop start xs)) = omega (arith, length-drop start xs) in
      ap (λ n. take n (drop start xs)) long ∙ take_min m (drop start xs)
      ∙ ap (take m) (ap (λ n. drop n xs) a ∙ drop_min xs k)

  -- what is kept of a list with more at its end is kept of the list's own last part
  pub last_of_last : (w : ℕ) (xs ys : List X) → drop (length (drop (length xs - w) xs ++ ys) - w)
      (drop (length xs - w) xs ++ ys) ≡ drop (length (xs ++ ys) - w) (xs ++ ys)
  last_of_last w xs ys =
      let k : ℕ = length xs - w in
      let within : k ≤ length xs = omega arith in
      let same : drop k xs ++ ys ≡ drop k (xs ++ ys) = sym (drop-append-le k xs ys within) in
      let rest : k + (length (drop k xs ++ ys) - w) ≡ length (xs ++ ys) - w =
      omega (arith, length-append (drop k xs) ys, length-append xs ys, length-drop k xs) in
      ap (drop (length (drop k xs ++ ys) - w)) same ∙ drop-drop (length (drop k xs ++ ys) - w) k (xs ++ ys)
      ∙ ap (λ n. drop n (xs ++ ys)) rest
