-- Texts split at the first byte that passes a test.
use Rattle.std.proofs.Common.{◌≡◌, ℕ, suc, ◌+◌, ◌<◌, not, Bool, true, false, cond, List, [], ◌∷◌, ◌++◌, take, drop, length, get_or, Option, Some, None, refl, sym, ap, ◌∙◌, arith, append_assoc, ◌≤◌, length-append, subst}
use Rattle.std.proofs.lemmas.Bool.{and_parts}
use Rattle.std.proofs.lemmas.List.{take_more}
use Rattle.std.proofs.lemmas.Grind.{common_steps}
use Rattle.std.specs.List.{list_all}
use Rattle.cj_schedule.specs.Pieces.{split, onto}

-- the split of the rest, after a front
abbrev pub after_front : List ℕ → List ℕ × Option (List ℕ) → List ℕ × Option (List ℕ)
after_front front parts = (front ++ parts.0, parts.1)

-- A text from a place within it on is the byte there and what follows.
pub drop_one : (xs : List ℕ) (i : ℕ) → i < length xs → drop i xs ≡ get_or xs i 0 ∷ drop (i + 1) xs
drop_one xs i h = grind (arith, common_steps)

-- A text is split at its first byte where that passes, else where the rest is split.
pub split_cons : (p : ℕ → Bool) (b : ℕ) (bs : List ℕ) (t : Bool) → p b ≡ t
    → split p (b ∷ bs) ≡ cond t ([], Some bs) (onto b (split p bs))
unfolding split
split_cons p b bs t e = rw e refl

-- Where the byte at a place passes, the text from there on is split at once.
pub split_here : (p : ℕ → Bool) (xs : List ℕ) (i : ℕ) → i < length xs → p (get_or xs i 0) ≡ true
    → split p (drop i xs) ≡ ([], Some (drop (i + 1) xs))
split_here p xs i h e = rw (drop_one xs i h) (split_cons p (get_or xs i 0) (drop (i + 1) xs) true e)

-- For split: over a byte that fails the front grows by it, and the whole split stays the same.
pub split_on : (p : ℕ → Bool) (xs : List ℕ) (i : ℕ) (parts : List ℕ × Option (List ℕ)) → i < length xs
    → p (get_or xs i 0) ≡ false
    → parts ≡ after_front (take i xs) (split p (drop i xs))
    → parts ≡ after_front (take (i + 1) xs) (split p (drop (i + 1) xs))
split_on p xs i parts h off e =
    let step : split p (drop i xs) ≡ onto (get_or xs i 0) (split p (drop (i + 1) xs)) =
    rw (drop_one xs i h) (split_cons p (get_or xs i 0) (drop (i + 1) xs) false off) in
    e ∙ ap (after_front (take i xs)) step ∙ rw (
      take_more xs i 0 h,
      append_assoc (take i xs) (get_or xs i 0 ∷ [])
          (split p (drop (i + 1) xs)).0,
    ) refl

-- The empty text is not split.
pub split_empty : (p : ℕ → Bool) → split p [] ≡ ([], None)
unfolding split
split_empty p = refl

-- no byte of the text passes
abbrev pub lacks : (ℕ → Bool) → List ℕ → Bool
lacks p xs = list_all (λ b. not (p b)) xs

-- A truth value whose opposite is true is false.
not_true : (b : Bool) → not b ≡ true → b ≡ false
not_true true h = cc
not_true false h = refl

-- a text without such a byte isn't split, and one with it is split there
pub split_none : (p : ℕ → Bool) (xs : List ℕ) → lacks p xs ≡ true → split p xs ≡ (xs, None)
split_none p [] h = split_empty p
split_none p (b ∷ bs) h =
    let q = and_parts (not (p b)) (lacks p bs) h in
    split_cons p b bs false (not_true (p b) q.0) ∙ ap (onto b) (split_none p bs q.1)

-- A text whose front lacks such a byte, and that goes on with one, is split at that one.
pub split_some : (p : ℕ → Bool) (xs : List ℕ) (c : ℕ) (ys : List ℕ) → lacks p xs ≡ true → p c ≡ true
    → split p (xs ++ c ∷ ys) ≡ (xs, Some ys)
split_some p [] c ys h e = split_cons p c ys true e
split_some p (b ∷ bs) c ys h e =
    let q = and_parts (not (p b)) (lacks p bs) h in
    split_cons p b (bs ++ c ∷ ys) false (not_true (p b) q.0) ∙ ap (onto b) (split_some p bs c ys q.1 e)

-- the parts of a split: what stands before it lacks such a byte, and put together they are the text
abbrev pub IsSplit : (ℕ → Bool) → List ℕ → List ℕ × Option (List ℕ) → Type 0
IsSplit p text (front, None) = (lacks p front ≡ true) × (text ≡ front)
IsSplit p text (front, Some back) = (lacks p front ≡ true) × ((c : ℕ) × (p c ≡ true) × (text ≡ front ++ c ∷ back))

-- A byte that fails, put before a text, joins the front of the text's split.
is_cut_onto : (p : ℕ → Bool) (b : ℕ) (bs : List ℕ) (parts : List ℕ × Option (List ℕ)) → p b ≡ false → IsSplit p bs parts
    → IsSplit p (b ∷ bs) (onto b parts)
is_cut_onto p b bs (front, None) off (plain, is) = (rw (off, plain) refl, ap (λ xs. b ∷ xs) is)
is_cut_onto p b bs (front, Some back) off (plain, (c, here, is)) =
    (rw (off, plain) refl, (c, here, ap (λ xs. b ∷ xs) is))

-- For is_split: the same of a text with one more byte in front, by whether that passes.
is_cut_by : (p : ℕ → Bool) (b : ℕ) (bs : List ℕ) (t : Bool) → p b ≡ t → IsSplit p bs (split p bs)
    → IsSplit p (b ∷ bs) (cond t ([], Some bs) (onto b (split p bs)))
is_cut_by p b bs true e h = (refl, (b, e, refl))
is_cut_by p b bs false e h = is_cut_onto p b bs (split p bs) e h

-- What split answers are the parts of its text, split at the first byte that passes.
pub is_split : (p : ℕ → Bool) (xs : List ℕ) → IsSplit p xs (split p xs)
is_split p [] = let none : ([], None) ≡ split p [] = sym (split_empty p) in rw (← none) (refl, refl)
is_split p (b ∷ bs) = rw (split_cons p b bs (p b) refl) (is_cut_by p b bs (p b) refl (is_split p bs))

-- For Part::split: the front of a split is no longer than the text.
pub split_front : (p : ℕ → Bool) (text front : List ℕ) (back : Option (List ℕ)) → (front, back) ≡ split p text
    → length front ≤ length text
split_front p text front None e =
    let h : IsSplit p text (front, None) = subst (IsSplit p text) (sym e) (is_split p text) in
    let sizes = ap length h.1 in omega (arith, sizes)
split_front p text front (Some back) e =
    let h : IsSplit p text (front, Some back) = subst (IsSplit p text) (sym e) (is_split p text) in
    let sizes = ap length h.1.2 in
    let sum : length (front ++ h.1.0 ∷ back) ≡ length front + suc (length back) = length-append front (h.1.0 ∷ back) in
    omega (arith, sizes, sum)

-- The front, the byte that is split at and the back are together as long as the text.
pub split_back : (p : ℕ → Bool) (text front back : List ℕ) → (front, Some back) ≡ split p text
    → length front + 1 + length back ≡ length text
split_back p text front back e =
    let h : IsSplit p text (front, Some back) = subst (IsSplit p text) (sym e) (is_split p text) in
    let sizes = ap length h.1.2 in
    let sum : length (front ++ h.1.0 ∷ back) ≡ length front + suc (length back) = length-append front (h.1.0 ∷ back) in
    omega (arith, sizes, sum)
