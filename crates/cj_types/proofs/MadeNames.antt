-- The name that the controller gives a Job is well formed.
use Rattle.std.proofs.Common.{◌≡◌, ℕ, zero, suc, ◌+◌, ◌-◌, ◌%◌, ◌^◌, ◌≤◌, ◌<◌, Bool, true, false, cond, ◌&&◌, ◌||◌, ◌==◌, nat_lt, List, [], ◌∷◌, ◌++◌, length, get_or, Some, None, refl, sym, ap, ◌∙◌, arith, length-append, append_assoc}
use Rattle.std.specs.Prelude.{slice_index, is_none, IsTrue, if◌then◌else◌}
use Rattle.std.specs.List.{slice_split, list_all, onto_first}
use Rattle.std.specs.Str.{IsAscii}
use Rattle.std.specs.Fmt.{decimal}
use Rattle.std.proofs.lemmas.Str.{chars-IsAscii}
use Rattle.std.proofs.lemmas.Fmt.{length-decimal-le, decimal_nonempty, decimal_by_steps}
use Rattle.std.proofs.lemmas.List.{get_or_append_left, get_or-append_right}
use Rattle.std.proofs.lemmas.List.Folds.{list_all-append}
use Rattle.std.proofs.lemmas.Bool.Decides.{nat_tests}
use Rattle.cj_types.specs.Names.{is_letter_or_digit, is_label_byte, is_label, is_subdomain, char_len, name_cause, namespace_cause, longest, longest_cron}
use Rattle.cj_types.specs.Keys.{place, is_place}
use Rattle.cj_base.specs.declared.cause.Cause.TheVariants.{TooLong, Format}

abbrev is_dot : ℕ → Bool
is_dot b = b == 46

-- Of two tests that hold together, the first holds.
and_left : (a b : Bool) → (a && b) ≡ true → a ≡ true
and_left true b h = refl
and_left false b h = h

-- Of two tests that hold together, the second holds.
and_right : (a b : Bool) → (a && b) ≡ true → b ≡ true
and_right true b h = h
and_right false b h = absurd (cc h)

-- Two tests that hold, hold together.
both : (a b : Bool) → a ≡ true → b ≡ true → (a && b) ≡ true
both true b p q = q
both false b p q = p

-- the parts, the last of them with more at its end
abbrev onto_last : List ℕ → List (List ℕ) → List (List ℕ)
onto_last s [] = s ∷ []
onto_last s (x ∷ []) = (x ++ s) ∷ []
onto_last s (x ∷ y ∷ r) = x ∷ onto_last s (y ∷ r)

abbrev IsCons : List (List ℕ) → Type 0
IsCons [] = ⊥
IsCons (x ∷ r) = Unit {0}

-- For has_parts: the parts of a text with one byte more in front are at least one.
cons_step : (t : Bool) (b : ℕ) (s : List (List ℕ)) → IsCons (cond t ([] ∷ s) (onto_first b s))
cons_step true b s = tt
cons_step false b [] = tt
cons_step false b (x ∷ r) = tt

-- A text split at its dots has at least one part.
has_parts : (bs : List ℕ) → IsCons (slice_split is_dot bs)
has_parts [] = tt
has_parts (b ∷ bs) = cons_step (is_dot b) b (slice_split is_dot bs)

-- For parts_more: a byte in front and more behind the last part are put there in either order.
more_step : (t : Bool) (b : ℕ) (s : List ℕ) (parts : List (List ℕ)) → IsCons parts
    → cond t ([] ∷ onto_last s parts) (onto_first b (onto_last s parts))
    ≡ onto_last s (cond t ([] ∷ parts) (onto_first b parts))
more_step true b s [] h = absurd h
more_step true b s (x ∷ r) h = refl
more_step false b s [] h = absurd h
more_step false b s (x ∷ []) h = refl
more_step false b s (x ∷ y ∷ r) h = refl

-- more without a dot goes to the last part
parts_more : (s : List ℕ) → slice_split is_dot s ≡ s ∷ [] → (bs : List ℕ)
    → slice_split is_dot (bs ++ s) ≡ onto_last s (slice_split is_dot bs)
parts_more s h [] = h
parts_more s h (b ∷ bs) =
    ap (λ r. cond (is_dot b) ([] ∷ r) (onto_first b r)) (parts_more s h bs)
    ∙ more_step (is_dot b) b s (slice_split is_dot bs) (has_parts bs)

-- Where a label with more behind it is a label, so are labels with that behind the last one.
labels_more : (s : List ℕ) → ((x : List ℕ) → is_label x ≡ true → is_label (x ++ s) ≡ true) → (parts : List (List ℕ))
    → IsCons parts → list_all is_label parts ≡ true → list_all is_label (onto_last s parts) ≡ true
labels_more s more [] c h = absurd c
labels_more s more (x ∷ []) c h = both _ _ (more x (and_left (is_label x) true h)) refl
labels_more s more (x ∷ y ∷ r) c h =
    let rest = list_all is_label (y ∷ r) in
    both _ _ (and_left (is_label x) rest h) (labels_more s more (y ∷ r) tt (and_right (is_label x) rest h))

-- In a text of letters and digits, the byte at a place is one of them.
all_at : (ds : List ℕ) (i : ℕ) → i < length ds → list_all is_letter_or_digit ds ≡ true
    → is_letter_or_digit (get_or ds i 0) ≡ true
all_at [] i lt h = absurd (omega arith)
all_at (d ∷ ds) zero lt h = and_left (is_letter_or_digit d) (list_all is_letter_or_digit ds) h
all_at (d ∷ ds) (suc i) lt h = all_at ds i (omega arith)
    (and_right (is_letter_or_digit d) (list_all is_letter_or_digit ds) h)

-- A letter or digit is a byte that a label may have.
letter_fits : (b : ℕ) → is_letter_or_digit b ≡ true → is_label_byte b ≡ true
letter_fits b h = ap (λ t. t || b == 45) h

-- A text of letters and digits has only bytes that a label may have.
letters_fit : (ds : List ℕ) → list_all is_letter_or_digit ds ≡ true → list_all is_label_byte ds ≡ true
letters_fit [] h = refl
letters_fit (d ∷ ds) h =
    let rest = list_all is_letter_or_digit ds in
    both _ _ (letter_fits d (and_left (is_letter_or_digit d) rest h))
    (letters_fit ds (and_right (is_letter_or_digit d) rest h))

-- A text of bytes that a label may have is a single part when it is split at its dots.
no_dot_in : (ds : List ℕ) → list_all is_label_byte ds ≡ true → slice_split is_dot ds ≡ ds ∷ []
no_dot_in [] h = refl
no_dot_in (d ∷ ds) h =
    let apart : is_dot d ≡ false = label_byte_apart d (and_left (is_label_byte d) (list_all is_label_byte ds) h) in
    ap (λ t. cond t ([] ∷ slice_split is_dot ds) (onto_first d (slice_split is_dot ds))) apart
    ∙ ap (onto_first d) (no_dot_in ds (and_right (is_label_byte d) (list_all is_label_byte ds) h))
  where
    label_byte_apart : (b : ℕ) → is_label_byte b ≡ true → is_dot b ≡ false
    label_byte_apart b h = grind (arith, nat_tests, h)

-- Four tests that hold together hold each.
four : (a b c d : Bool) → (a && b && c && d) ≡ true → (a ≡ true) × (b ≡ true) × (c ≡ true) × (d ≡ true)
four true true true true h = (refl, refl, refl, refl)
four true true true false h = absurd (cc h)
four true true false d h = absurd (cc h)
four true false c d h = absurd (cc h)
four false b c d h = absurd (cc h)

-- Four tests that hold, hold together.
four_of : (a b c d : Bool) → a ≡ true → b ≡ true → c ≡ true → d ≡ true → (a && b && c && d) ≡ true
four_of true true true d p q r s = s
four_of true true false d p q r s = absurd (cc r)
four_of true false c d p q r s = absurd (cc q)
four_of false b c d p q r s = absurd (cc p)

-- A label isn't empty, begins and ends with a letter or digit, and has only bytes of a label.
label_parts : (x : List ℕ) → is_label x ≡ true → (nat_lt 0 (length x) ≡ true)
    × (is_letter_or_digit (slice_index x 0) ≡ true) × (is_letter_or_digit (slice_index x (length x - 1)) ≡ true)
    × (list_all is_label_byte x ≡ true)
unfolding is_label
label_parts x h = four (nat_lt 0 (length x)) (is_letter_or_digit (slice_index x 0))
    (is_letter_or_digit (slice_index x (length x - 1))) (list_all is_label_byte x) h

-- Conversely, a text that is so is a label.
label_of_parts : (x : List ℕ) → nat_lt 0 (length x) ≡ true → is_letter_or_digit (slice_index x 0) ≡ true
    → is_letter_or_digit (slice_index x (length x - 1)) ≡ true → list_all is_label_byte x ≡ true → is_label x ≡ true
unfolding is_label
label_of_parts x a b c d = four_of (nat_lt 0 (length x)) (is_letter_or_digit (slice_index x 0))
    (is_letter_or_digit (slice_index x (length x - 1))) (list_all is_label_byte x) a b c d

-- A label with - and some letters or digits behind it is a label.
label_more : (ds : List ℕ) → 0 < length ds → list_all is_letter_or_digit ds ≡ true → (x : List ℕ) → is_label x ≡ true
    → is_label (x ++ 45 ∷ ds) ≡ true
label_more ds some digits x h =
    let p = label_parts x h in
    let size : length (x ++ 45 ∷ ds) ≡ length x + (length ds + 1) = grind (arith, length-append) in
    let held : 0 < length x = grind (arith, nat_tests, p.0) in
    let first : slice_index (x ++ 45 ∷ ds) 0 ≡ slice_index x 0 = get_or_append_left x (45 ∷ ds) 0 0 held in
    let regroup : (x ++ 45 ∷ []) ++ ds ≡ x ++ 45 ∷ ds = append_assoc x (45 ∷ []) ds in
    let front : length (x ++ 45 ∷ []) ≡ length x + 1 = grind (arith, length-append) in
    let place : length (x ++ 45 ∷ ds) - 1 ≡ length x + length ds = omega (arith, size) in
    let rest : (length x + length ds) - (length x + 1) ≡ length ds - 1 = omega arith in
    let last : slice_index (x ++ 45 ∷ ds) (length (x ++ 45 ∷ ds) - 1) ≡ get_or ds (length ds - 1) 0 =
    ap (λ i. get_or (x ++ 45 ∷ ds) i 0) place
    ∙ ap (λ l. get_or l (length x + length ds) 0) (sym regroup)
    ∙ get_or-append_right (x ++ 45 ∷ []) ds (length x + 1) (length x + length ds) 0 front (omega (arith, some))
    ∙ ap (λ i. get_or ds i 0) rest in
    label_of_parts (x ++ 45 ∷ ds)
    (grind (arith, nat_tests, size))
    (ap is_letter_or_digit first ∙ p.1)
    (ap is_letter_or_digit last ∙ all_at ds (length ds - 1) (omega (arith, some)) digits)
    (list_all-append is_label_byte x (45 ∷ ds) ∙ both _ _ p.3 (letters_fit ds digits))

-- a subdomain, `-` and letters or digits are a subdomain
pub subdomain_more : (bs ds : List ℕ) → is_subdomain bs ≡ true → 0 < length ds → list_all is_letter_or_digit ds ≡ true
    → is_subdomain (bs ++ 45 ∷ ds) ≡ true
unfolding is_subdomain
subdomain_more bs ds h some digits =
    let fits : list_all is_label_byte (45 ∷ ds) ≡ true = letters_fit ds digits in
    ap (list_all is_label) (parts_more (45 ∷ ds) (no_dot_in (45 ∷ ds) fits) bs)
    ∙ labels_more (45 ∷ ds) (label_more ds some digits) (slice_split is_dot bs) (has_parts bs) h

abbrev is_name_byte : ℕ → Bool
is_name_byte b = is_dot b || is_label_byte b

-- A label has only bytes that a label may have.
label_bytes : (x : List ℕ) → is_label x ≡ true → list_all is_label_byte x ≡ true
label_bytes x h = (label_parts x h).3

-- For name_bytes, at the first byte: it is a dot or one that a label may have, and the parts
-- behind it have only such as a label may have.
bytes_step : (t : Bool) (b : ℕ) (parts : List (List ℕ))
    → list_all (list_all is_label_byte) (cond t ([] ∷ parts) (onto_first b parts)) ≡ true → IsCons parts
    → ((t || is_label_byte b) ≡ true) × (list_all (list_all is_label_byte) parts ≡ true)
bytes_step true b parts h c = (refl, h)
bytes_step false b [] h c = absurd c
bytes_step false b (x ∷ r) h c =
    let all_r = list_all (list_all is_label_byte) r in
    let head = and_left (list_all is_label_byte (b ∷ x)) all_r h in (
      and_left (is_label_byte b) (list_all is_label_byte x) head,
      both _ _ (and_right (is_label_byte b) (list_all is_label_byte x) head)
          (and_right (list_all is_label_byte (b ∷ x)) all_r h),
    )

-- A text whose parts have only bytes that a label may have has those and dots alone.
name_bytes : (bs : List ℕ) → list_all (list_all is_label_byte) (slice_split is_dot bs) ≡ true
    → list_all is_name_byte bs ≡ true
name_bytes [] h = refl
name_bytes (b ∷ bs) h =
    let s = bytes_step (is_dot b) b (slice_split is_dot bs) h (has_parts bs) in both _ _ s.0 (name_bytes bs s.1)

-- Parts that are labels have only bytes that a label may have.
labels_bytes : (parts : List (List ℕ)) → list_all is_label parts ≡ true → list_all (list_all is_label_byte) parts ≡ true
labels_bytes [] h = refl
labels_bytes (x ∷ r) h =
    let rest = list_all is_label r in
    both _ _ (label_bytes x (and_left (is_label x) rest h)) (labels_bytes r (and_right (is_label x) rest h))

-- A byte of a name is an ASCII character.
byte_ascii : (b : ℕ) → is_name_byte b ≡ true → b < 128
byte_ascii b h = grind (arith, nat_tests, h)

-- A text of bytes of a name is ASCII.
all_ascii : (bs : List ℕ) → list_all is_name_byte bs ≡ true → IsAscii bs
all_ascii [] h i = omega arith
all_ascii (b ∷ bs) h zero = byte_ascii b (and_left (is_name_byte b) (list_all is_name_byte bs) h)
all_ascii (b ∷ bs) h (suc i) = all_ascii bs (and_right (is_name_byte b) (list_all is_name_byte bs) h) i

-- a subdomain has as many characters as bytes
pub subdomain_len : (bs : List ℕ) → is_subdomain bs ≡ true → char_len bs ≡ length bs
unfolding is_subdomain
subdomain_len bs h = ap length (chars-IsAscii bs
    (all_ascii bs (name_bytes bs (labels_bytes (slice_split is_dot bs) h))))

-- A name against which there is no cause is not too long, and is well formed.
no_cause : (limit : ℕ) (t : Bool) (w : Bool) → is_none (if t then Some TooLong else if w then None else Some Format)
    ≡ true → (t ≡ false) × (w ≡ true)
no_cause limit true w h = absurd (cc h)
no_cause limit false true h = (refl, refl)
no_cause limit false false h = absurd (cc h)

-- A subdomain of at most so many bytes is a name of at most so many characters.
well_named : (limit : ℕ) (name : List ℕ) → is_subdomain name ≡ true → length name ≤ limit
    → is_none (name_cause limit name) ≡ true
well_named limit name h le =
    let fits : nat_lt limit (char_len name) ≡ false = ap (nat_lt limit) (subdomain_len name h)
    ∙ grind (arith, nat_tests, le) in
    ap (λ t. is_none (if t then Some TooLong else if is_subdomain name then None else Some Format)) fits
    ∙ ap (λ w. is_none (if w then None else Some Format)) h

-- The byte of a decimal digit is a letter or digit.
digit_fits : (d : ℕ) → d < 10 → is_letter_or_digit (48 + d) ≡ true
digit_fits d h = grind (arith, nat_tests, h)

-- A number that is printed in decimal has only letters or digits.
decimal_fits : (n : ℕ) → n < 2 ^ 64 → list_all is_letter_or_digit (decimal n) ≡ true
decimal_fits = decimal_by_steps (λ _ ds. list_all is_letter_or_digit ds ≡ true)
    (λ n h. both (is_letter_or_digit (48 + n)) true (digit_fits n h) refl)
    (λ n ds h p. list_all-append is_letter_or_digit ds ((48 + n % 10) ∷ [])
    ∙ both (list_all is_letter_or_digit ds) (is_letter_or_digit (48 + n % 10) && true) p
    (both (is_letter_or_digit (48 + n % 10)) true (digit_fits (n % 10) (omega arith)) refl))

-- A CronJob's name with - and one to ten letters or digits behind it is an object's name.
pub made_well : (namespace name ds : List ℕ) → IsTrue (is_place longest_cron (place namespace name)) → 0 < length ds
    → length ds ≤ 10 → list_all is_letter_or_digit ds ≡ true
    → IsTrue (is_place longest (place namespace (name ++ 45 ∷ ds)))
made_well namespace name ds whole some short digits =
    let left = and_left (is_none (name_cause longest_cron name)) (is_none (namespace_cause namespace)) whole in
    let right = and_right (is_none (name_cause longest_cron name)) (is_none (namespace_cause namespace)) whole in
    let named = no_cause longest_cron (nat_lt longest_cron (char_len name)) (is_subdomain name) left in
    let counted : char_len name ≡ length name = subdomain_len name named.1 in
    let le : length name ≤ 52 = grind (arith, nat_tests, named.0, counted) in
    let size : length (name ++ 45 ∷ ds) ≤ 63 = grind (arith, length-append, le, short) in
    both _ _ (well_named longest (name ++ 45 ∷ ds) (subdomain_more name ds named.1 some digits) size) right

-- For CronKey::job_key: a CronJob's name, - and a number below 10^10 are an object's name.
pub made_decimal : (namespace name : List ℕ) (n : ℕ) → n < 10 ^ 10
    → IsTrue (is_place longest_cron (place namespace name))
    → IsTrue (is_place longest (place namespace (name ++ 45 ∷ decimal n)))
made_decimal namespace name n small h =
    let fits : n < 2 ^ 64 = omega arith in
    made_well namespace name (decimal n) h (decimal_nonempty n fits) (length-decimal-le 10 n (omega arith) small fits)
    (decimal_fits n fits)
