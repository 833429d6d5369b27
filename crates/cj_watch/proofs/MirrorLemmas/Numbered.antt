-- The last of some numbered events.
use Rattle.std.proofs.Common.{◌≡◌, ℕ, ◌+◌, ◌-◌, suc, zero, List, [], ◌∷◌, length, slice_get, Some, arith}
use Rattle.cj_types.specs.declared.event.Event.{Event}
use Rattle.cj_types.specs.Events.{version_of}
use Rattle.cj_watch.specs.Numbers.{IsNumbered}

-- For last_is, with the last place given as a number: the same of the event that stands there.
last_by : (n : ℕ) (es : List Event) (e : Event) (i : ℕ) → suc i ≡ length es → slice_get es i ≡ Some e → IsNumbered n es
    → version_of e ≡ n + length es
last_by n [] e i p h is = absurd (omega arith)
last_by n (x ∷ []) e zero p h is = let same : x ≡ e = cc h in let here : version_of x ≡ n + 1 = is.0 in cc (same, here)
last_by n (x ∷ []) e (suc i) p h is = absurd (omega arith)
last_by n (x ∷ y ∷ ys) e zero p h is = absurd (omega arith)
last_by n (x ∷ y ∷ ys) e (suc i) p h is =
    let rest : version_of e ≡ n + 1 + length (y ∷ ys) = last_by (n + 1) (y ∷ ys) e i (omega arith) h is.1 in
    omega arith

-- For last_version: the last event's version is the one before the first plus the events' number.
pub last_is : (n : ℕ) (es : List Event) (e : Event) → slice_get es (length es - 1) ≡ Some e → IsNumbered n es
    → version_of e ≡ n + length es
last_is n [] e h is = absurd (cc h)
last_is n (x ∷ xs) e h is = last_by n (x ∷ xs) e (length (x ∷ xs) - 1) (omega arith) h is
