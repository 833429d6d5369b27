-- How long a line break is.
use Rattle.std.proofs.Common.{◌≡◌, ℕ, ◌+◌, ◌-◌, ◌<◌, ◌≤◌, ◌^◌, ◌==◌, ◌⊎◌, min, inl, inr, List, length, get_or, cond, Bool, true, false, ap, arith}
use Rattle.std.proofs.lemmas.Bool.{cases_lt}
use Rattle.std.proofs.lemmas.List.{get_or_past}
use Rattle.cj_yaml.specs.Cursors.{break_len}

-- How long it is by its first byte, and whether a line feed is behind it.
abbrev pub len_of : ℕ → Bool → ℕ
len_of b pair = cond (b == 10) 1 (cond (b == 13) (cond pair 2 1) 0)

-- For len_most: by the tests.
most : (a b c : Bool) → cond a 1 (cond b (cond c 2 1) 0) ≤ 2
most true b c = omega arith
most false true true = omega arith
most false true false = omega arith
most false false c = omega arith

-- It has two bytes at most.
len_most : (b : ℕ) (pair : Bool) → len_of b pair ≤ 2
len_most b pair = most (b == 10) (b == 13) pair

-- For break_sum: there is none, or it is within the text.
sum_fits : (s : List ℕ) (i r w : ℕ) → length s < 2 ^ 63 → i < 2 ^ 64 → r ≡ min (i + w) (2 ^ 64 - 1) → w ≤ 2
    → (w ≡ 0) ⊎ (i < length s) → r ≡ i + w
sum_fits s i r w bound fits e most (inl none) = omega (arith, none, e, fits)
sum_fits s i r w bound fits e most (inr inside) = omega (arith, inside, e, most, bound)

-- For break_sum: where a line break is.
break_within : (s : List ℕ) (i : ℕ) → (i < length s) ⊎ (length s ≤ i) → (break_len s i ≡ 0) ⊎ (i < length s)
break_within s i (inl inside) = inr inside
break_within s i (inr past) =
    inl (ap (λ b. len_of b (get_or s (i + 1) 0 == 10)) (get_or_past s i 0 past))

-- For break_end: the sum fits.
pub break_sum : (s : List ℕ) (i r : ℕ) → length s < 2 ^ 63 → i < 2 ^ 64 → r ≡ min (i + break_len s i) (2 ^ 64 - 1)
    → r ≡ i + break_len s i
break_sum s i r bound fits e =
    sum_fits s i r (break_len s i) bound fits e (len_most (get_or s i 0) (get_or s (i + 1) 0 == 10))
    (break_within s i (cases_lt i (length s)))
