-- A text that is printed with codes is read as that text, as JSON has it.
use Rattle.std.proofs.Common.{◌≡◌, ℕ, suc, ◌+◌, ◌*◌, ◌/◌, ◌%◌, ◌<◌, ◌≤◌, Bool, true, false, cond, ◌&&◌, ◌||◌, eqb, leb, ltb, ◌⊎◌, inl, inr, List, [], ◌∷◌, ◌++◌, Option, Some, None, refl, sym, ap, ap₂, ◌∙◌, subst, arith, append_assoc, append-nil, get_or, length, flat_map, IsUtf8, chars}
use Rattle.std.proofs.lemmas.Bool.{and_left, and_parts, and_right, cases_eq, cases_lt, eqb-true, le-ltb, leb-true, lt-leb, lt-ltb, ltb-false, ltb-true, ne_eqb, or_parts}
use Rattle.std.proofs.lemmas.Str.{encode_ascii, inside_one, digit_value-digit_char, chars-encodes}
use Rattle.std.specs.Char.{digit_char, digit_value}
use lib.Utf8.{encode, encodes}
use Rattle.json.specs.Text.{content, plain, prepend, code_unit, short_escape, is_high_surrogate, is_low_surrogate}
use Rattle.json.specs.Word.{is_operator, is_space}
use Rattle.json.specs.Lex.{Lexeme, Mode, lex, lex_byte, in_string, operator, space, other, string_token, fresh, punctuate, tokens}
use Rattle.json.specs.Lex as lexeme
use Rattle.json.specs.Json as json
use Rattle.json.specs.Tree.{json_tokens}
use Rattle.json.proofs.Printed.Trees.{value-json_tokens}
use Rattle.serde_json.specs.Data.{string}
use Rattle.serde_json.specs.Read.{max_depth, read}
use Rattle.serde_json.specs.Written.{outline}
use Rattle.cj_yaml.specs.Escapes.{hex_digit, code_escape, is_coded, coded_char, coded_text}
use Rattle.cj_yaml.proofs.JsonTexts.{last_alone}

-- Inside a string JSON reads some bytes as others, and its lexer stays in it.
record Passes (bytes said : List ℕ) : Type 0 where
  says : (r : List ℕ) → content plain (bytes ++ r) ≡ prepend said (content plain r)
  lexed : (r : List ℕ) → lex in_string (bytes ++ r) ≡ lex in_string r

-- For passes_then: one part in front of another.
prepend_twice : (x y : List ℕ) (o : Option (List ℕ)) → prepend x (prepend y o) ≡ prepend (x ++ y) o
prepend_twice x y None = refl
prepend_twice x y (Some s) = ap Some (sym (append_assoc x y s))

-- For passes_nil: nothing in front.
prepend_none : (o : Option (List ℕ)) → o ≡ prepend [] o
prepend_none None = refl
prepend_none (Some s) = refl

-- No bytes pass as none.
passes_nil : Passes [] []
passes_nil = record { says = λ r. prepend_none (content plain r); lexed = λ r. refl }

-- Bytes behind bytes that pass, pass.
passes_then : (a x b y : List ℕ) → Passes a x → Passes b y → Passes (a ++ b) (x ++ y)
passes_then a x b y p q =
    record {
      says = λ r.
          ap (content plain) (append_assoc a b r) ∙ p.says (b ++ r) ∙ ap (prepend x) (q.says r)
          ∙ prepend_twice x y (content plain r);
      lexed = λ r. ap (lex in_string) (append_assoc a b r) ∙ p.lexed (b ++ r) ∙ q.lexed r;
    }

-- For passes_byte: a byte that is no quote and no backslash leaves the lexer in the string.
stays : (o s : Bool) (x : ℕ) (r : List ℕ) (k : Mode → List Lexeme)
    → lex_byte in_string (cond o operator (cond s space other)) x r k ≡ k in_string
stays true s x r k = refl
stays false true x r k = refl
stays false false x r k = refl

-- Such a byte is passed by the lexer.
lex_inside : (x : ℕ) (r : List ℕ) → (x ≡ 34 → ⊥) → (x ≡ 92 → ⊥) → lex in_string (x ∷ r) ≡ lex in_string r
unfolding lex
lex_inside x r q b = rw (ne_eqb x 34 q, ne_eqb x 92 b) (stays (is_operator x) (is_space x) x r (λ m. lex m r))

-- A byte that is no control character, quote or backslash passes as itself.
passes_byte : (x : ℕ) → (x ≡ 34 → ⊥) → (x ≡ 92 → ⊥) → 32 ≤ x → Passes (x ∷ []) (x ∷ [])
unfolding content
passes_byte x q b l =
    record {
      says = λ r. rw (ne_eqb x 34 q, ne_eqb x 92 b, le-ltb x 32 l);
      lexed = λ r. lex_inside x r q b;
    }

-- Bytes of characters that are no ASCII pass as themselves.
passes_high : (bs : List ℕ) → ((k : ℕ) → k < length bs → 128 ≤ get_or bs k 0) → Passes bs bs
passes_high [] h = passes_nil
passes_high (x ∷ xs) h =
    let high : 128 ≤ x = h 0 (omega arith) in
    passes_then (x ∷ []) (x ∷ []) xs xs (passes_byte x (λ e. omega arith) (λ e. omega arith) (omega arith))
    (passes_high xs (λ k below. h (suc k) (omega arith)))

-- A character that needs no escape passes as itself.
passes_plain : (c : ℕ) → (c ≡ 34 → ⊥) → (c ≡ 92 → ⊥) → 32 ≤ c → Passes (encode c) (encode c)
passes_plain c q b l = elim (cases_lt c 128) [
  | inl small ↦ subst (λ (bs : List ℕ). Passes bs bs) (sym (encode_ascii c small)) (passes_byte c q b l)
  | inr big ↦ passes_high (encode c)
      (λ k below. elim (cases_lt (get_or (encode c) k 0) 128) [
        | inl low ↦ absurd (omega (arith, inside_one c [] (encode c) k (sym (append-nil _)) below low))
        | inr h ↦ h
      ])
]

-- ---- codes

-- What a hexadecimal digit is, as a number.
digit_bounds : (d : ℕ) → d < 16 → (48 ≤ digit_char d) × (digit_char d ≤ 102) × (digit_char d ≡ 92 → ⊥)
digit_bounds d h = elim (cases_lt d 10) [
  | inl l ↦ rw (lt-ltb d 10 l) (omega arith, omega arith, λ e. omega arith)
  | inr g ↦ rw (le-ltb d 10 g) (omega arith, omega arith, λ e. omega arith)
]

-- A hexadecimal digit is one byte.
one_digit : (n : ℕ) → hex_digit n ≡ digit_char (n % 16) ∷ []
one_digit n =
    let h : n % 16 < 16 = omega arith in
    let top = digit_bounds (n % 16) h in
    encode_ascii (digit_char (n % 16)) (omega (arith, top.1))

-- The bytes of a code, from its digits.
joined : (a b c d : List ℕ) (x y z w : ℕ) → a ≡ x ∷ [] → b ≡ y ∷ [] → c ≡ z ∷ [] → d ≡ w ∷ []
    → (92 ∷ 117 ∷ []) ++ a ++ b ++ c ++ d ≡ 92 ∷ 117 ∷ x ∷ y ∷ z ∷ w ∷ []
joined a b c d x y z w p q r s = rw (p, q, r, s)

-- Four digits spell a number.
spelled : (a b c d x y z w : ℕ) → digit_value a ≡ x → digit_value b ≡ y → digit_value c ≡ z → digit_value d ≡ w
    → x < 16 → y < 16 → z < 16 → w < 16 → code_unit a b c d ≡ Some (x * 4096 + y * 256 + z * 16 + w)
unfolding code_unit
spelled a b c d x y z w p q r s hx hy hz hw =
    rw (p, q, r, s) (rw (lt-ltb x 16 hx, lt-ltb y 16 hy, lt-ltb z 16 hz, lt-ltb w 16 hw))

-- The digits of a number below 65536 make it up.
digits_sum : (c : ℕ) → c < 65536 → ((c / 4096) % 16) * 4096 + ((c / 256) % 16) * 256 + ((c / 16) % 16) * 16 + c % 16 ≡ c
digits_sum c h = omega arith

-- JSON reads four digits behind `\u` as the character.
read_code : (a b c d u : ℕ) (r : List ℕ) → code_unit a b c d ≡ Some u → is_high_surrogate u ≡ false
    → is_low_surrogate u ≡ false
    → content plain (92 ∷ 117 ∷ a ∷ b ∷ c ∷ d ∷ r) ≡ prepend (encode u) (content plain r)
unfolding content
read_code a b c d u r e high low = rw (e, high, low)

-- The lexer passes them.
lex_code : (a b c d : ℕ) (r : List ℕ) → (a ≡ 34 → ⊥) → (a ≡ 92 → ⊥) → (b ≡ 34 → ⊥) → (b ≡ 92 → ⊥)
    → (c ≡ 34 → ⊥) → (c ≡ 92 → ⊥)
    → (d ≡ 34 → ⊥) → (d ≡ 92 → ⊥) → lex in_string (92 ∷ 117 ∷ a ∷ b ∷ c ∷ d ∷ r) ≡ lex in_string r
unfolding lex
lex_code a b c d r aq ab bq bb cq cb dq db =
    lex_inside a (b ∷ c ∷ d ∷ r) aq ab ∙ lex_inside b (c ∷ d ∷ r) bq bb
    ∙ lex_inside c (d ∷ r) cq cb ∙ lex_inside d r dq db

-- A character of 16 bits that is no surrogate passes by its code.
passes_code : (c : ℕ) → c < 65536 → is_high_surrogate c ≡ false → is_low_surrogate c ≡ false
    → Passes (code_escape c) (encode c)
passes_code c h high low =
    let x = digit_char ((c / 4096) % 16) in
    let y = digit_char ((c / 256) % 16) in
    let z = digit_char ((c / 16) % 16) in
    let w = digit_char (c % 16) in
    let bx = digit_bounds ((c / 4096) % 16) (omega arith) in
    let by = digit_bounds ((c / 256) % 16) (omega arith) in
    let bz = digit_bounds ((c / 16) % 16) (omega arith) in
    let bw = digit_bounds (c % 16) (omega arith) in
    let same : code_escape c ≡ 92 ∷ 117 ∷ x ∷ y ∷ z ∷ w ∷ [] =
    joined (hex_digit (c / 4096)) (hex_digit (c / 256)) (hex_digit (c / 16)) (hex_digit c) x y z w
    (one_digit (c / 4096)) (one_digit (c / 256)) (one_digit (c / 16)) (one_digit c) in
    let unit : code_unit x y z w ≡ Some c =
    spelled x y z w ((c / 4096) % 16) ((c / 256) % 16) ((c / 16) % 16) (c % 16)
    (digit_value-digit_char ((c / 4096) % 16) (omega arith)) (digit_value-digit_char ((c / 256) % 16) (omega arith))
    (digit_value-digit_char ((c / 16) % 16) (omega arith)) (digit_value-digit_char (c % 16) (omega arith))
    (omega arith) (omega arith) (omega arith) (omega arith)
    ∙ ap Some (digits_sum c h) in
    subst (λ (bytes : List ℕ). Passes bytes (encode c)) (sym same)
    (record {
      says = λ r. read_code x y z w c r unit high low;
      lexed = λ r.
          lex_code x y z w r (λ e. omega (arith, bx.0, e)) bx.2 (λ e. omega (arith, by.0, e)) by.2
          (λ e. omega (arith, bz.0, e)) bz.2 (λ e. omega (arith, bw.0, e)) bw.2;
    })

-- ---- characters

-- A quote passes by its escape.
passes_quote : Passes (coded_char 34) (encode 34)
unfolding content lex short_escape encode
passes_quote = record { says = λ r. refl; lexed = λ r. refl }

-- A backslash passes by its escape.
passes_backslash : Passes (coded_char 92) (encode 92)
unfolding content lex short_escape encode
passes_backslash = record { says = λ r. refl; lexed = λ r. refl }

-- What follows from each of two tests follows from either.
either : {P : Type 0} (x y : Bool) → (x ≡ true → P) → (y ≡ true → P) → (x || y) ≡ true → P
either true y f g e = f refl
either false y f g e = g e

-- A number of 16 bits that is no surrogate.
abbrev InRange : ℕ → Type 0
InRange c = (c < 65536) × ((c < 55296) ⊎ (57344 ≤ c))

-- For coded_range: below the surrogates.
range_below : (c : ℕ) → c < 55296 → InRange c
range_below c h = (omega arith, inl h)

-- For coded_range: above the surrogates.
range_above : (c : ℕ) → 57344 ≤ c → c < 65536 → InRange c
range_above c g h = (h, inr g)

-- What has a code is in that range.
coded_range : (c : ℕ) → is_coded c ≡ true → InRange c
coded_range c e =
    either _ _
    (either _ _
    (either _ _
    (either _ _
    (either _ _
    (either _ _ (λ (t : ltb c 32 ≡ true). range_below c (omega (arith, ltb-true c 32 t)))
    (λ (t : (leb 127 c && leb c 159) ≡ true). range_below c (omega (arith, leb-true c 159 (and_parts _ _ t).1))))
    (λ (t : eqb c 8232 ≡ true). range_below c (omega (arith, eqb-true c 8232 t))))
    (λ (t : eqb c 8233 ≡ true). range_below c (omega (arith, eqb-true c 8233 t))))
    (λ (t : eqb c 65279 ≡ true). range_above c (omega (arith, eqb-true c 65279 t)) (omega (arith, eqb-true c 65279 t))))
    (λ (t : eqb c 65534 ≡ true). range_above c (omega (arith, eqb-true c 65534 t)) (omega (arith, eqb-true c 65534 t))))
    (λ (t : eqb c 65535 ≡ true). range_above c (omega (arith, eqb-true c 65535 t)) (omega (arith, eqb-true c 65535 t)))
    e

-- What has no code is no control character.
plain_range : (c : ℕ) → is_coded c ≡ false → 32 ≤ c
plain_range c e =
    ltb-false c 32
    (or_parts _ _ (or_parts _ _ (or_parts _ _ (or_parts _ _ (or_parts _ _ (or_parts _ _ e).0).0).0).0).0).0

-- What is no surrogate is tested as none.
no_surrogate : (c : ℕ) → (c < 55296) ⊎ (57344 ≤ c) → (is_high_surrogate c ≡ false) × (is_low_surrogate c ≡ false)
no_surrogate c (inl l) = (
  and_left (leb 55296 c) (ltb c 56320) (lt-leb 55296 c l),
  and_left (leb 56320 c) (ltb c 57344) (lt-leb 56320 c (omega arith)),
)
no_surrogate c (inr g) = (
  and_right (leb 55296 c) (ltb c 56320) (le-ltb c 56320 (omega arith)),
  and_right (leb 56320 c) (ltb c 57344) (le-ltb c 57344 g),
)

-- A character that is no quote or backslash passes, by its code or as itself.
passes_other : (c : ℕ) (b : Bool) → is_coded c ≡ b → (c ≡ 34 → ⊥) → (c ≡ 92 → ⊥)
    → Passes (cond b (code_escape c) (encode c)) (encode c)
passes_other c true e q k =
    let range = coded_range c e in
    let none = no_surrogate c range.1 in
    passes_code c range.0 none.0 none.1
passes_other c false e q k = passes_plain c q k (plain_range c e)

-- For passes_char: a character as it stands in quotes, where it is no quote or backslash.
is_other : (c : ℕ) → (c ≡ 34 → ⊥) → (c ≡ 92 → ⊥) → coded_char c ≡ cond (is_coded c) (code_escape c) (encode c)
is_other c q b = rw (ne_eqb c 34 q, ne_eqb c 92 b)

-- For passes_char: one that is no quote or backslash, as it stands in quotes.
passes_bare : (c : ℕ) → (c ≡ 34 → ⊥) → (c ≡ 92 → ⊥) → Passes (coded_char c) (encode c)
passes_bare c q b =
    subst (λ (bytes : List ℕ). Passes bytes (encode c)) (sym (is_other c q b))
    (passes_other c (is_coded c) refl q b)

-- Every character passes as it stands in quotes.
passes_char : (c : ℕ) → Passes (coded_char c) (encode c)
passes_char c = elim (cases_eq c 34) [
  | inl e ↦ subst (λ (d : ℕ). Passes (coded_char d) (encode d)) (sym e) passes_quote
  | inr q ↦ elim (cases_eq c 92) [
    | inl e ↦ subst (λ (d : ℕ). Passes (coded_char d) (encode d)) (sym e) passes_backslash
    | inr b ↦ passes_bare c q b
  ]
]

-- So do characters one behind another.
passes_all : (cs : List ℕ) → Passes (flat_map coded_char cs) (encodes cs)
passes_all [] = passes_nil
passes_all (c ∷ cs) =
    passes_then (coded_char c) (encode c) (flat_map coded_char cs) (encodes cs) (passes_char c) (passes_all cs)

-- ---- texts

-- What JSON reads of the characters of a text before the closing quote.
content_coded : (t : List ℕ) → IsUtf8 t → content plain (flat_map coded_char (chars t) ++ 34 ∷ []) ≡ Some t
unfolding content
content_coded t u =
    let same : chars t ≡ u.0 = ap chars (sym u.1.1) ∙ chars-encodes u.0 u.1.0 in
    ap (λ (cs : List ℕ). content plain (flat_map coded_char cs ++ 34 ∷ [])) same
    ∙ (passes_all u.0).says (34 ∷ []) ∙ ap Some (append-nil (encodes u.0) ∙ u.1.1)

-- What the lexer makes of them.
lex_coded : (t : List ℕ) → lex in_string (flat_map coded_char (chars t) ++ 34 ∷ []) ≡ []
unfolding lex
lex_coded t = (passes_all (chars t)).lexed (34 ∷ [])

-- The tokens of a text with codes are that text alone.
tokens_coded : (t : List ℕ) → IsUtf8 t → tokens (coded_text t) ≡ json_tokens (outline (string t))
unfolding lex punctuate
tokens_coded t u =
    ap₂ (λ (o : Option (List ℕ)) (l : List Lexeme). punctuate fresh (lexeme.token (string_token o) ∷ l))
    (content_coded t u) (lex_coded t)

-- A text with codes reads as the text.
pub coded_again : (t : List ℕ) → IsUtf8 t → read (coded_text t) ≡ Some (string t)
unfolding last_alone
coded_again t u =
    ap last_alone (ap (json.value max_depth) (tokens_coded t u ∙ sym (append-nil _))
    ∙ value-json_tokens (outline (string t)) max_depth [] (omega arith))
