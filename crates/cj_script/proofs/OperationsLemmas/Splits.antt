-- The key of a text that is split at its first slash.
use Rattle.std.proofs.Common.{◌≡◌, ◌<◌, ◌==◌, ℕ, List, length, if◌then◌else◌, Option, None, Result, Ok, Err, IfOk, sym, ap, ◌∙◌, arith}
use Rattle.std.specs.List.{before_first, after_first, position_or_len}
use Rattle.std.proofs.lemmas.Bool.Decides.{nat_tests}
use Rattle.cj_base.specs.declared.refusal.Refusal.{Refusal}
use Rattle.cj_types.specs.Keys.{Place}
use Rattle.cj_script.specs.operations.Operations.{is_slash, key_named, key_of}

-- For key-whole: where two numbers are equal, what hangs on their difference is none.
unsplit : (a b : ℕ) (o : Option Place) → a ≡ b → (if a == b then None else o) ≡ None
unsplit a b o e = grind (arith, nat_tests)

-- For key-split: where the first number is less, what hangs on their difference stays.
split : (a b : ℕ) (o : Option Place) → a < b → (if a == b then None else o) ≡ o
split a b o lt = grind (arith, nat_tests)

-- A text without a slash says no key.
pub key-whole : (text : List ℕ) → position_or_len is_slash text ≡ length text → None ≡ key_of text
unfolding key_of
key-whole text e = sym (unsplit _ _ (key_named (before_first is_slash text) (after_first is_slash text)) e)

-- A text with a slash says the key of what stands before its first slash and after it.
pub key-split : (text namespace name : List ℕ) (o : Option Place) → position_or_len is_slash text < length text
    → namespace ≡ before_first is_slash text
    → name ≡ after_first is_slash text → o ≡ key_named namespace name → o ≡ key_of text
unfolding key_of
key-split text namespace name o lt a b e =
    e ∙ ap (λ n. key_named n name) a ∙ ap (λ n. key_named (before_first is_slash text) n) b
    ∙ sym (split _ _ (key_named (before_first is_slash text) (after_first is_slash text)) lt)

-- a key that was made of the two parts
pub key-made : (r : Result (Option Place) Refusal) (text namespace name : List ℕ)
    → position_or_len is_slash text < length text
    → namespace ≡ before_first is_slash text → name ≡ after_first is_slash text
    → IfOk r (λ k. k ≡ key_named namespace name) → IfOk r (λ k. k ≡ key_of text)
key-made (Ok o) text namespace name lt a b h = key-split text namespace name o lt a b h
key-made (Err e) text namespace name lt a b h = h
