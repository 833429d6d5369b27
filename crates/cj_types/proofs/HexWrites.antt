-- What `{:012x}` writes of a uid's count.
use Rattle.std.proofs.Common.{◌≡◌, ℕ, zero, suc, ◌+◌, ◌-◌, ◌^◌, ◌/◌, ◌%◌, ◌<◌, nat_eq, Bool, true, false, cond, List, [], ◌∷◌, ◌++◌, length, refl, sym, ap, ◌∙◌, subst, arith, append_assoc, append-nil, IfSome}
use Rattle.std.specs.Prelude.{replicate, Option, Some}
use Rattle.std.specs.Fmt.{digits, digits_onto, padded_integral, format_spec, char_count, ◌++?◌}
use Rattle.std.proofs.lemmas.Bool.{eqb-true}
use Rattle.cj_types.specs.Uids.{hex_digit, hex_digits}

abbrev zeros : ℕ → List ℕ
zeros k = replicate k 48

-- A zero behind zeros is one before them.
zero_last : (k : ℕ) → zeros k ++ zeros 1 ≡ 48 ∷ zeros k
zero_last zero = refl
zero_last (suc k) = ap (λ l. 48 ∷ l) (zero_last k)

-- The digits of 0 are zeros.
all_zeros : (k : ℕ) → hex_digits k 0 ≡ zeros k
unfolding hex_digits
all_zeros zero = refl
all_zeros (suc k) = ap (λ l. l ++ zeros 1) (all_zeros k) ∙ zero_last k

-- The digits before acc, with the zeros that are wanting, are k digits.
abbrev IsFilled : ℕ → ℕ → List ℕ → List ℕ → Type 0
IsFilled k n acc all = hex_digits k n ++ acc ≡ zeros (k + length acc - length all) ++ all

-- For filled: a number of one digit.
last_digit : (j n : ℕ) (acc : List ℕ) → n / 16 ≡ 0 → IsFilled (suc j) n acc (hex_digit (n % 16) ∷ acc)
unfolding hex_digits
last_digit j n acc e =
    let count : j ≡ suc j + length acc - suc (length acc) = omega arith in
    append_assoc (hex_digits j (n / 16)) (hex_digit (n % 16) ∷ []) acc
    ∙ ap (λ l. l ++ hex_digit (n % 16) ∷ acc) (ap (hex_digits j) e ∙ all_zeros j ∙ ap zeros count)

-- For filled: a number of more.
more_digits : (j n : ℕ) (acc all : List ℕ) → IsFilled j (n / 16) (hex_digit (n % 16) ∷ acc) all
    → IsFilled (suc j) n acc all
unfolding hex_digits
more_digits j n acc all h =
    let count : j + suc (length acc) ≡ suc j + length acc = omega arith in
    append_assoc (hex_digits j (n / 16)) (hex_digit (n % 16) ∷ []) acc ∙ h
    ∙ ap (λ m. zeros (m - length all) ++ all) count

-- A number's digits without leading zeros are its k digits but for the zeros that are wanting.
filled : (room k n : ℕ) (acc : List ℕ) → 0 < k → k < suc room → n < 16 ^ k
    → IsFilled k n acc (digits_onto room 16 false n acc)
filled zero k n acc some fits small = absurd (omega arith)
filled (suc room) zero n acc some fits small = absurd (omega arith)
filled (suc room) (suc j) n acc some fits small =
    by (nat_eq (n / 16) 0) refl
    (λ i. filled room j (n / 16) (hex_digit (n % 16) ∷ acc) i (omega arith) (omega arith))
  where
    rest : List ℕ
    rest = digits_onto room 16 false (n / 16) (hex_digit (n % 16) ∷ acc)

    positive : (j : ℕ) → n < 16 ^ suc j → (n / 16 ≡ 0 → ⊥) → 0 < j
    positive zero s more = absurd (more (omega arith))
    positive (suc i) s more = omega arith

    by : (b : Bool) → nat_eq (n / 16) 0 ≡ b → (0 < j → IsFilled j (n / 16) (hex_digit (n % 16) ∷ acc) rest)
        → IsFilled (suc j) n acc (cond b (hex_digit (n % 16) ∷ acc) rest)
    by true e ih = last_digit j n acc (eqb-true (n / 16) 0 e)
    by false e ih = more_digits j n acc rest (ih (positive j small
        (λ z. absurd (cc (sym (ap (λ m. nat_eq m 0) z) ∙ e)))))

-- For twelve_digits: what `0` and a width of 12 make of the digits.
laid : (numeral : List ℕ) → padded_integral (format_spec 32 0 4 12 (2 ^ 64 - 1)) false [] numeral
    ≡ zeros (12 - length numeral) ++ numeral
unfolding padded_integral char_count
laid numeral =
    let count : 12 - length numeral - 0 - 0 ≡ 12 - length numeral = omega arith in
    ap (λ k. zeros k ++ (numeral ++ [])) count ∙ ap (λ l. zeros (12 - length numeral) ++ l) (append-nil numeral)

-- For Uid::text: `{:012x}` writes twelve digits.
pub twelve_digits : (n : ℕ) → n < 16 ^ 12
    → padded_integral (format_spec 32 0 4 12 (2 ^ 64 - 1)) false [] (digits 16 false n) ≡ hex_digits 12 n
unfolding digits
twelve_digits n small =
    laid (digits_onto 64 16 false n [])
    ∙ sym (filled 64 12 n [] (omega arith) (omega arith) small) ∙ append-nil (hex_digits 12 n)

-- For Uid::text: a text that is a front and what is written behind it.
pub written : (front digits text : List ℕ) (o : Option (List ℕ)) → o ≡ Some digits
    → IfSome (Some front ++? o) (λ bs. text ≡ bs) → text ≡ front ++ digits
written front digits text o is h = subst (λ w. IfSome (Some front ++? w) (λ bs. text ≡ bs)) is h
