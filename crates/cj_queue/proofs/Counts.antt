-- Counts of failures that are given back what they were before a put.
use Rattle.std.proofs.Common.{◌≡◌, ℕ, Bool, true, false, cond, Option, Some, None, sym, refl, ap, ◌∙◌}
use Rattle.std.specs.FinMap as map
use Rattle.cj_types.specs.Keys.{Place}
use Rattle.cj_table.proofs.Puts.{alike}
use Rattle.cj_queue.specs.Parts.{key_eq, Counts}
use Rattle.cj_queue.proofs.Sets.{eq_self, eq_true, get_put, get_off}

-- For given_back: what a test chooses over what it chose.
chosen : (t : Bool) (w v o : Option ℕ) → (t ≡ true → o ≡ w) → cond t w (cond t v o) ≡ o
chosen true w v o f = sym (f refl)
chosen false w v o f = refl

-- For Failures::put_back: where a key had no count, it has none again after a put and a removal.
pub taken_back : (counts now : Counts) (k : Place) (n : ℕ) → map.get counts k ≡ None → now ≡ map.insert counts k n
    → map.remove now k ≡ counts
taken_back counts now k n before put =
    ap (λ m. map.remove m k) put
    ∙ alike _ _ (λ q. get_off (map.insert counts k n) k q ∙ ap (cond (key_eq k q) None) (get_put counts k n q)
    ∙ chosen (key_eq k q) None (Some n) (map.get counts q) (λ e. ap (map.get counts) (sym (eq_true k q e)) ∙ before))

-- For Failures::put_back: where a key had a count, it has this count again after two puts.
pub given_back : (counts now : Counts) (k : Place) (n m : ℕ) → map.get counts k ≡ Some m → now ≡ map.insert counts k n
    → map.insert now k m ≡ counts
given_back counts now k n m before put =
    ap (λ (c : Counts). map.insert c k m) put
    ∙ alike _ _ (λ q. get_put (map.insert counts k n) k m q ∙ ap (cond (key_eq k q) (Some m)) (get_put counts k n q)
    ∙ chosen (key_eq k q) (Some m) (Some n) (map.get counts q)
    (λ e. ap (map.get counts) (sym (eq_true k q e)) ∙ before))

-- For Failures::put_back: after a put the key has a count.
pub count_there : (counts now : Counts) (k : Place) (n : ℕ) → now ≡ map.insert counts k n → map.get now k ≡ None → ⊥
count_there counts now k n put none =
    let there : map.get now k ≡ Some n = ap (λ m. map.get m k) put ∙ get_put counts k n k
    ∙ ap (λ t. cond t (Some n) (map.get counts k)) (eq_self k) in
    cc (sym there ∙ none)
