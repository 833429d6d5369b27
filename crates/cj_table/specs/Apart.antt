-- Which value any key has after an insert or a removal at one key.
use Rattle.std.specs.Prelude.{◌≡◌, ◌≢◌, ◌⊎◌, Some, None}
use Rattle.std.specs.declared.cmp.Ordering.{Ordering}
use Rattle.std.specs.Ordering.{nat_cmp}
use Rattle.std.specs.FinMap.{FinMap, get, insert, remove}
use Rattle.cj_types.specs.Keys.{place_cmp}

-- after a put at k, k has the value and any other key q what it had before; after a removal of k, k
-- has nothing and any other key q what it had before
pub record IsApart {K : Type 0} (R : K → K → Ordering) (X : Type 0) : Type 0 where
  pub put_here : (m : FinMap R X) (k : K) (x : X) → get (insert m k x) k ≡ Some x
  pub put_other : (m : FinMap R X) (k q : K) (x : X) → q ≢ k → get (insert m k x) q ≡ get m q
  pub after_put : (m : FinMap R X) (k q : K) (x y : X) → get (insert m k x) q ≡ Some y
      → ((q ≡ k) × (x ≡ y)) ⊎ ((q ≢ k) × (get m q ≡ Some y))
  pub removal_here : (m : FinMap R X) (k : K) → get (remove m k) k ≡ None
  pub removal_other : (m : FinMap R X) (k q : K) → q ≢ k → get (remove m k) q ≡ get m q
  pub after_removal : (m : FinMap R X) (k q : K) (y : X) → get (remove m k) q ≡ Some y
      → (q ≢ k) × (get m q ≡ Some y)

-- the facts for maps by key
abbrev pub PlacesApart : Type 0 → Type 0
PlacesApart X = IsApart place_cmp X

-- the facts for maps by number
abbrev pub NumbersApart : Type 0 → Type 0
NumbersApart X = IsApart nat_cmp X
