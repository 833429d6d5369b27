-- How deep a mapping and a list nest once they have one more value.
use Rattle.std.proofs.Common.{ℕ, ◌+◌, ◌≤◌, List, [], ◌∷◌, ◌++◌, String, Vec, BTreeMap, Global, arith}
use Rattle.std.specs.Ordering.{nat_cmp, match_ordering}
use Rattle.std.specs.declared.cmp.Ordering.{Ordering}
use Rattle.std.specs.declared.cmp.Ordering.TheVariants.{Less, Equal, Greater}
use Rattle.std.specs.Cmp.Lexicographic.{slice_cmp}
use Rattle.serde_json.specs.Data.{Data, Members, no_members, member, put, depth, members_depth, items_depth}
use Rattle.serde_json.specs.View.{view, items_view, members_view}
use Rattle.serde_json.specs.declared.value.Value.{Value, Array, Object}
use Rattle.serde_json.proofs.Views.{view-Array, view-Object}

-- For put_depth: whichever of three a comparison picks.
picked : (o : Ordering) (a b c : Members) (n : ℕ) → members_depth a ≤ n → members_depth b ≤ n → members_depth c ≤ n
    → members_depth (match_ordering o a b c) ≤ n
picked Less a b c n ha hb hc = ha
picked Equal a b c n ha hb hc = hb
picked Greater a b c n ha hb hc = hc

-- Members with one more nest no deeper than they and it.
pub put_depth : (k : List ℕ) (d : Data) (ms : Members) (n : ℕ) → depth d ≤ n → members_depth ms ≤ n
    → members_depth (put k d ms) ≤ n
put_depth k d no_members n hd h = omega (arith, hd)
put_depth k d (member l e ms) n hd h =
    picked (slice_cmp nat_cmp k l) (member k d (member l e ms)) (member l d ms) (member l e (put k d ms)) n
    (omega (arith, hd, h)) (omega (arith, hd, h))
    (omega (arith, h, put_depth k d ms n hd (omega (arith, h))))

-- Items with one more nest no deeper than they and it.
pub push_depth : (vs : List Value) (v : Value) (n : ℕ) → depth (view v) ≤ n → items_depth (items_view vs) ≤ n
    → items_depth (items_view (vs ++ v ∷ [])) ≤ n
push_depth [] v n hv h = omega (arith, hv)
push_depth (w ∷ ws) v n hv h = omega (arith, h, push_depth ws v n hv (omega (arith, h)))

-- A mapping nests one level deeper than its members.
pub object_depth : (m : BTreeMap (String Global) Value) (n : ℕ) → members_depth (members_view m.entries) ≤ n
    → depth (view (Object m)) ≤ n + 1
object_depth m n h = rw view-Object (omega (arith, h))

-- A list nests one level deeper than its items.
pub array_depth : (v : Vec Value Global) (n : ℕ) → items_depth (items_view v.items) ≤ n
    → depth (view (Array v)) ≤ n + 1
array_depth v n h = rw view-Array (omega (arith, h))
