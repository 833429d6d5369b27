-- The entries of a pass in a history.
use Rattle.std.proofs.Common.{◌≡◌, ◌+◌, ◌-◌, ◌<◌, ◌≤◌, ℕ, suc, List, [], ◌∷◌, ◌++◌, length, map, ◌^◌, IsTrue, refl, sym, ap, subst, ◌∙◌, arith, Bool, true, false, length-append}
use Rattle.std.specs.Prelude.{◌==◌, ◌↔◌, if◌then◌else◌, slice_get, slice_index_or, Option, Some, None, IfSome}
use Rattle.std.proofs.lemmas.Option.{slice_get_within}
use Rattle.std.proofs.lemmas.Grind.{reverse_onto}
use Rattle.std.proofs.lemmas.List.{reverse-reverse, length-reverse, append-nil}
use mathlib.Core.List.{reverse}
use Rattle.cj_calls.specs.Rows.{Told}
use Rattle.cj_calls.specs.declared.caller.Role.{Role}
use Rattle.cj_hub.specs.declared.receipt.Receipt.{Receipt}
use Rattle.cj_hub.specs.declared.enrolled.Enrolled.{Enrolled}
use Rattle.cj_hub.specs.Receipts.{PassView, placed, receipt_of, IsExact, Stands}
use Rattle.cj_hub.specs.Walks.{placed_from}
use Rattle.cj_hub.specs.Books.{IsCounted, not_enrolled}

-- ---- counts

-- A pass has at most as many entries as the history.
pub placed_le : (n : ℕ) (h : List Told) → length (placed n h) ≤ length h
placed_le n [] = omega arith
placed_le n (e ∷ h) = by_case (e.caller.number == n) (placed n h) (receipt_of (length h + 1) e) (placed_le n h)
  where
    by_case : (b : Bool) (rs : List Receipt) (r : Receipt) → length rs ≤ length h
        → length (if b then rs ++ r ∷ [] else rs) ≤ suc (length h)
    by_case true rs r le = omega (arith, length-append rs (r ∷ []))
    by_case false rs r le = omega arith

-- With an entry more, a pass has one more if it made the call, and else as many as before.
placed_more : (n : ℕ) (h : List Told) (e : Told) → length (placed n (e ∷ h))
    ≡ length (placed n h) + (if e.caller.number == n then 1 else 0)
placed_more n h e = by_case (e.caller.number == n) (placed n h) (receipt_of (length h + 1) e)
  where
    by_case : (b : Bool) (rs : List Receipt) (r : Receipt) → length (if b then rs ++ r ∷ [] else rs)
        ≡ length rs + (if b then 1 else 0)
    by_case true rs r = length-append rs (r ∷ [])
    by_case false rs r = omega arith

-- For Book::enter: with an entry more, and its caller's count one up, the book counts the entries
-- of each pass.
pub counted_more : (enrolled enrolled' : List Enrolled) (h : List Told) (e : Told) (n : ℕ) → IsCounted enrolled h
    → e.caller.number ≡ n
    → ((k : ℕ) → (slice_index_or enrolled' k not_enrolled).count
    ≡ (slice_index_or enrolled k not_enrolled).count + (if n == k then 1 else 0))
    → IsCounted enrolled' (e ∷ h)
counted_more enrolled enrolled' h e n counted is more k =
    let before = counted k in
    let after = more k in
    rw (placed_more k h e, is, after, before) refl

-- For Book::enter: the count of a pass plus one fits 64 bits, as the history is short.
pub counts_fit : (enrolled : List Enrolled) (h all : List Told) (n : ℕ) → IsCounted enrolled h → h ≡ all
    → length all < 2 ^ 25
    → (slice_index_or enrolled n not_enrolled).count + 1 < 2 ^ 64
counts_fit enrolled h all n counted same short =
    let count = counted n in
    let le = placed_le n h in
    let long = ap (λ (x : List Told). length x) same in
    omega arith

-- There are as many roles as passes enrolled.
roles_long : (enrolled : List Enrolled) → length (map (λ (s : Enrolled). s.role) enrolled) ≡ length enrolled
roles_long [] = refl
roles_long (s ∷ enrolled) = ap suc (roles_long enrolled)

-- For Book::enter: a number that has a role is that of an enrolled pass.
pub enrolled_within : (enrolled : List Enrolled) (roles : List Role) (n : ℕ) (role : Role)
    → map (λ s. s.role) enrolled ≡ roles
    → slice_get roles n ≡ Some role → n < length enrolled
enrolled_within enrolled roles n role same found =
    let within = slice_get_within roles n role found in
    let long = ap (λ (x : List Role). length x) same in
    omega (arith, roles_long enrolled)

-- ---- from the oldest entry on

-- For in_order: with an entry put last, a pass has it last, at the next place, if it made the call.
from_more : (n at : ℕ) (es : List Told) (e : Told) → placed_from n at (es ++ e ∷ []) ≡ placed_from n at es
    ++ (if e.caller.number == n then receipt_of (at + length es) e ∷ [] else [])
from_more n at [] e = by_case (e.caller.number == n) (receipt_of at e) (receipt_of (at + 0) e)
    (ap (λ p. receipt_of p e) (omega arith))
  where
    by_case : (b : Bool) (r q : Receipt) → r ≡ q → (if b then r ∷ [] else []) ≡ [] ++ (if b then q ∷ [] else [])
    by_case true r q is = ap (λ x. x ∷ []) is
    by_case false r q is = refl
from_more n at (x ∷ es) e =
    let rest = from_more n (at + 1) es e in
    let place : (at + 1) + length es ≡ at + length (x ∷ es) = omega arith in
    by_case (x.caller.number == n) (receipt_of at x) _ _ _ (rw place at rest)
  where
    by_case : (b : Bool) (r : Receipt) (all one two : List Receipt) → all ≡ one ++ two
        → (if b then r ∷ all else all) ≡ (if b then r ∷ one else one) ++ two
    by_case true r all one two is = ap (λ xs. r ∷ xs) is
    by_case false r all one two is = is

-- A pass's entries counted from the oldest on are the same as those that the history gives.
in_order : (n : ℕ) (h : List Told) → placed_from n 1 (reverse h) ≡ placed n h
in_order n [] = refl
in_order n (e ∷ h) =
    let place : 1 + length (reverse h) ≡ length h + 1 = omega (arith, length-reverse h) in
    ap (placed_from n 1) (reverse_onto h e []) ∙ from_more n 1 (reverse h) e
    ∙ by_case (e.caller.number == n) _ _ _ _ (in_order n h) (ap (λ p. receipt_of p e) place)
  where
    by_case : (b : Bool) (rs qs : List Receipt) (r q : Receipt) → rs ≡ qs → r ≡ q
        → rs ++ (if b then r ∷ [] else []) ≡ (if b then qs ++ q ∷ [] else qs)
    by_case true rs qs r q is one = cc (is, one)
    by_case false rs qs r q is one = append-nil rs ∙ is

-- What in_order says, of entries that are the history's, the oldest first.
pub in_order_of : (n : ℕ) (es h : List Told) → es ≡ reverse h → placed_from n 1 es ≡ placed n h
in_order_of n es h is = ap (placed_from n 1) is ∙ in_order n h

-- For Book::fits: what is_exact tests of the entries, the oldest first, it tests of the history.
pub exact_of : (n : ℕ) (es h : List Told) (rs : List Receipt) (b : Bool) → es ≡ reverse h
    → (IsTrue b ↔ (rs ≡ placed_from n 1 es)) → IsTrue b ↔ (rs ≡ placed n h)
exact_of n es h rs b is e = (λ t. e.0 t ∙ in_order_of n es h is, λ x. e.1 (x ∙ sym (in_order_of n es h is)))

-- For Book::fits: the receipts are the pass's entries in the history just where it is exact.
pub fit_of : (h : List Told) (p q : PassView) (rs : List Receipt) → p ≡ q → rs ≡ p.receipts
    → (rs ≡ placed p.number h) ↔ IsExact h q
fit_of h p q rs same is = (λ x. subst (IsExact h) same (sym is ∙ x), λ y. is ∙ subst (IsExact h) (sym same) y)

-- Entries that are a history when they are turned round are that history turned round.
pub turned : (es h : List Told) → reverse es ≡ h → es ≡ reverse h
turned es h is = sym (reverse-reverse es) ∙ ap reverse is

-- ---- places

-- the next place is after that of a receipt that stands
pub follows : (h : List Told) (o : Option Receipt) (place : ℕ) → IfSome o (Stands h) → place ≡ length h + 1
    → IfSome o (λ r. r.place < place)
follows h None place stands is = tt
follows h (Some r) place stands is = omega (
  arith,
  slice_get_within (reverse h) (r.place - 1) r.entry stands.1,
  length-reverse h,
)
