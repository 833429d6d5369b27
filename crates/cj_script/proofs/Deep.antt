-- How deep the parts of a value nest.
use Rattle.std.proofs.Common.{◌≡◌, ◌≤◌, ◌<◌, ℕ, zero, suc, List, [], ◌∷◌, length, get_or, Some, subst, sym, arith}
use Rattle.serde_json.specs.Data.{Data, null, boolean, number, string, array, object, Items, depth, items_depth}
use Rattle.serde_json.specs.Find.{as_array}
use Rattle.serde_json.specs.View.{items_view, view}
use Rattle.serde_json.specs.declared.value.Value.{Value}

-- For gathered_of: a value of a list nests no deeper than the list's values may.
pub depth_at : (values : List Value) (i : ℕ) (x : Value) (n : ℕ) → i < length values → x ≡ get_or values i x
    → items_depth (items_view values) ≤ n → depth (view x) ≤ n
depth_at [] i x n inside at h = absurd (omega (arith, inside))
depth_at (v ∷ vs) zero x n inside at h = subst (λ y. depth (view y) ≤ n) (sym at) (omega (arith, h))
depth_at (v ∷ vs) (suc i) x n inside at h = depth_at vs i x n (omega (arith, inside)) at (omega (arith, h))

-- Two lists of values that are the same where they may be missing are the same.
same : (e d : Items) → Some e ≡ Some d → e ≡ d
same e d h = cc h

-- For told_of: the values of an array nest no deeper than the array may.
pub depth_items : (d : Data) (ds : Items) (n : ℕ) → as_array d ≡ Some ds → depth d ≤ n → items_depth ds ≤ n
depth_items null ds n is h = absurd (cc is)
depth_items (boolean b) ds n is h = absurd (cc is)
depth_items (number m) ds n is h = absurd (cc is)
depth_items (string s) ds n is h = absurd (cc is)
depth_items (array es) ds n is h = subst (λ x. items_depth x ≤ n) (same es ds is) (omega (arith, h))
depth_items (object ms) ds n is h = absurd (cc is)
