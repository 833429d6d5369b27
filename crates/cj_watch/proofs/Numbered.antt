-- Numbered events: parts of a list of them, and those that come later.
use Rattle.std.proofs.Common.{◌≡◌, ◌∙◌, ap, sym, subst, refl, ℕ, ◌+◌, ◌-◌, ◌≤◌, suc, zero, nat_lt, true, false, cond, List, [], ◌∷◌, ◌++◌, length, drop, take, arith}
use Rattle.std.proofs.Math.Seq.{drop-nil}
use Rattle.std.proofs.lemmas.Bool.Decides.{nat_tests}
use Rattle.cj_types.specs.declared.event.Event.{Event}
use Rattle.cj_types.specs.Events.{version_of}
use Rattle.cj_watch.specs.Numbers.{IsNumbered, later}

-- A list numbered on from m is numbered on from n, where m is n.
numbered_at : (m n : ℕ) (es : List Event) → m ≡ n → IsNumbered m es → IsNumbered n es
numbered_at m n es e h = subst (λ k. IsNumbered k es) e h

-- Without its first k, a list numbered on from n is numbered on from n + k.
pub numbered_drop : (n k : ℕ) (es : List Event) → IsNumbered n es → IsNumbered (n + k) (drop k es)
numbered_drop n zero es h = numbered_at n (n + 0) es (omega arith) h
numbered_drop n (suc k) [] h = tt
numbered_drop n (suc k) (e ∷ es) h = numbered_at (n + 1 + k) (n + suc k) (drop k es) (omega arith)
    (numbered_drop (n + 1) k es h.1)

-- The first k of a list numbered on from n are numbered on from n.
pub numbered_take : (n k : ℕ) (es : List Event) → IsNumbered n es → IsNumbered n (take k es)
numbered_take n zero es h = tt
numbered_take n (suc k) [] h = tt
numbered_take n (suc k) (e ∷ es) h = (h.0, numbered_take (n + 1) k es h.1)

-- A list numbered on from n stays so with an event put last whose version is the next.
pub numbered_snoc : (n : ℕ) (es : List Event) (e : Event) → IsNumbered n es → version_of e ≡ n + length es + 1
    → IsNumbered n (es ++ e ∷ [])
numbered_snoc n [] e h v = (omega (arith, v), tt)
numbered_snoc n (x ∷ xs) e h v = (h.0, numbered_snoc (n + 1) xs e h.1 (omega (arith, v)))

-- Where the event after n has a version above v, v is at most n.
below : (n v k : ℕ) → k ≡ n + 1 → nat_lt v k ≡ true → v ≤ n
below n v k e t = grind (arith, nat_tests)

-- Where the event after n has no version above v, v is one further from n than from n + 1.
above : (n v k : ℕ) → k ≡ n + 1 → nat_lt v k ≡ false → v - n ≡ suc (v - (n + 1))
above n v k e t =
    let le : k ≤ v = grind (arith, nat_tests) in
    omega arith

-- the later ones are what is left without the others
pub later_is : (n v : ℕ) (es : List Event) → IsNumbered n es → later v es ≡ drop (v - n) es
later_is n v [] h = sym (drop-nil (v - n))
later_is n v (e ∷ es) h =
    let rest = later_is (n + 1) v es h.1 in
    elim (nat_lt v (version_of e)) as (λ b. nat_lt v (version_of e) ≡ b → cond b (e ∷ later v es) (later v es)
    ≡ drop (v - n) (e ∷ es)) [
      | true ↦ λ t.
          let le = below n v (version_of e) h.0 t in
          let none : v - (n + 1) ≡ 0 = omega arith in
          let zero_left : v - n ≡ 0 = omega arith in
          ap (λ xs. e ∷ xs) (rest ∙ ap (λ k. drop k es) none) ∙ sym (ap (λ k. drop k (e ∷ es)) zero_left)
      | false ↦ λ t. rest ∙ sym (ap (λ k. drop k (e ∷ es)) (above n v (version_of e) h.0 t))
    ] refl
