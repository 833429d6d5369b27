-- Odd characters in what is left of a text.
use Rattle.std.proofs.Common.{◌≡◌, ℕ, ◌+◌, ◌<◌, ◌≤◌, true, false, List, length, get_or, drop, ◌||◌, ap, ◌∙◌, arith, get_or-drop}
use Rattle.std.proofs.lemmas.List.{drop_all, drop_more}
use Rattle.cj_yaml.specs.Words.{begins_odd, has_odd}

-- For odd_at: an element of what is left behind a place.
behind : (s : List ℕ) (i k n : ℕ) → i + k ≡ n → get_or (drop i s) k 0 ≡ get_or s n 0
behind s i k n e = get_or-drop i s k 0 ∙ ap (λ (j : ℕ). get_or s j 0) e

-- What is left has such a character if one begins it, or if one is behind its first byte.
odd_at : (s : List ℕ) (i : ℕ) → i < length s
    → has_odd (drop i s)
    ≡ (begins_odd (get_or s i 0) (get_or s (i + 1) 0) (get_or s (i + 2) 0) || has_odd (drop (i + 1) s))
odd_at s i h =
    let one : get_or (drop (i + 1) s) 0 0 ≡ get_or s (i + 1) 0 = behind s (i + 1) 0 (i + 1) (omega arith) in
    let two : get_or (drop (i + 1) s) 1 0 ≡ get_or s (i + 2) 0 = behind s (i + 1) 1 (i + 2) (omega arith) in
    rw (drop_more s i 0 h) (rw (one, two))

-- Three bytes begin such a character if three that are the same do.
begins_same : (a b c x y z : ℕ) → a ≡ x → b ≡ y → c ≡ z → begins_odd x y z ≡ begins_odd a b c
begins_same a b c x y z p q r = rw (p, q, r)

-- For has_odd: one is found.
pub odd_found : (s : List ℕ) (i a b c : ℕ) → i < length s → a ≡ get_or s i 0 → b ≡ get_or s (i + 1) 0
    → c ≡ get_or s (i + 2) 0 → begins_odd a b c ≡ true → has_odd (drop i s) ≡ true
odd_found s i a b c h p q r t =
    odd_at s i h ∙ ap (λ x. x || has_odd (drop (i + 1) s)) (begins_same a b c _ _ _ p q r ∙ t)

-- For has_odd: none begins there.
pub odd_passed : (s : List ℕ) (i a b c : ℕ) → i < length s → a ≡ get_or s i 0 → b ≡ get_or s (i + 1) 0
    → c ≡ get_or s (i + 2) 0 → begins_odd a b c ≡ false → has_odd (drop i s) ≡ has_odd (drop (i + 1) s)
odd_passed s i a b c h p q r t =
    odd_at s i h ∙ ap (λ x. x || has_odd (drop (i + 1) s)) (begins_same a b c _ _ _ p q r ∙ t)

-- For has_odd: nothing is left.
pub odd_end : (s : List ℕ) (i : ℕ) → length s ≤ i → has_odd (drop i s) ≡ false
odd_end s i h = ap has_odd (drop_all i s h)
