-- How many bytes in front of what is left pass a test.
use Rattle.std.proofs.Common.{◌≡◌, ℕ, zero, suc, ◌+◌, ◌<◌, ◌≤◌, List, [], ◌∷◌, ◌++◌, length, drop, get_or, cond, Bool, true, false, refl, ap, ◌∙◌, arith}
use Rattle.std.proofs.lemmas.List.{at_drop_all, at_drop_more}
use Rattle.cj_yaml.specs.BlockStyle.{indent}
use Rattle.cj_yaml.specs.Cursors.{is_space, leading}

-- A byte that doesn't pass ends them.
pub leading_stops : (test : ℕ → Bool) (s : List ℕ) (i n : ℕ) → i < length s → i + leading test (drop i s) ≡ n
    → test (get_or s i 0) ≡ false → i ≡ n
leading_stops test s i n h e stop =
    let none : leading test (drop i s) ≡ 0 =
    at_drop_more (leading test) s i 0 h ∙ ap (λ b. cond b (leading test (drop (i + 1) s) + 1) 0) stop in
    omega (arith, e, none)

-- One that passes.
pub leading_more : (test : ℕ → Bool) (s : List ℕ) (i n : ℕ) → i < length s → i + leading test (drop i s) ≡ n
    → test (get_or s i 0) ≡ true → (i + 1) + leading test (drop (i + 1) s) ≡ n
leading_more test s i n h e go =
    let one : leading test (drop i s) ≡ leading test (drop (i + 1) s) + 1 =
    at_drop_more (leading test) s i 0 h ∙ ap (λ b. cond b (leading test (drop (i + 1) s) + 1) 0) go in
    omega (arith, e, one)

-- Nothing is left.
pub leading_ends : (test : ℕ → Bool) (s : List ℕ) (i n : ℕ) → length s ≤ i → i + leading test (drop i s) ≡ n → i ≡ n
leading_ends test s i n h e =
    let none : leading test (drop i s) ≡ 0 = at_drop_all (leading test) s i h in omega (arith, e, none)

-- The first byte doesn't pass.
pub leading_none : (test : ℕ → Bool) (s : List ℕ) → test (get_or s 0 0) ≡ false → leading test s ≡ 0
leading_none test [] stop = refl
leading_none test (b ∷ rest) stop = ap (λ x. cond x (leading test rest + 1) 0) stop

-- The spaces of a line.
pub leading_indent : (n : ℕ) (rest : List ℕ) → is_space (get_or rest 0 0) ≡ false
    → leading is_space (indent n ++ rest) ≡ n
leading_indent zero rest stop = leading_none is_space rest stop
leading_indent (suc n) rest stop = let e = leading_indent n rest stop in omega (arith, e)
