-- The items of a list, one after another, and how deep they nest.
use Rattle.std.proofs.Common.{◌≡◌, ◌∙◌, ◌≤◌, ◌+◌, ◌<◌, ℕ, List, ◌∷◌, length, drop, get_or, Option, Some, None, option_and_then, refl, sym, ap, subst, arith, codes, Bool, true, false, if◌then◌else◌}
use Rattle.std.specs.Ordering.{nat_cmp, match_ordering}
use Rattle.std.specs.declared.cmp.Ordering.{Ordering}
use Rattle.std.specs.declared.cmp.Ordering.TheVariants.{Less, Equal, Greater}
use Rattle.std.specs.Cmp.Lexicographic.{slice_cmp}
use Rattle.serde_json.specs.Data.{Data, null, boolean, number, string, array, object, Members, no_members, member, put, Items, no_items, item, depth, items_depth, members_depth}
use Rattle.serde_json.specs.Find.{as_array}
use Rattle.serde_json.specs.View.{items_view, view}
use Rattle.serde_json.specs.declared.value.Value.{Value}
use Rattle.cj_zone.specs.declared.zone.Zone.{Zone}
use Rattle.cj_manifest.specs.Members.{present}
use Rattle.cj_manifest.specs.Owners.{text_at}
use Rattle.cj_cluster.specs.declared.kubectl.list.ClusterList.{ClusterList}
use Rattle.cj_cluster.specs.kubectl.Lists.{is_list, is_single, items_for, items_of, listed, typed, with_text, with_version}
use Rattle.cj_cluster.specs.kubectl.Reading.{AddsItem, AddsItems, TypeMeta, start}
use Rattle.cj_cluster.specs.kubectl.Texts.{list_items, list_items_for}
use Rattle.cj_cluster.proofs.KubectlLemmas.Depth.{depth-present}
use Rattle.cj_cluster.proofs.KubectlLemmas.Places.{rest_at}

-- ---- one item after another

-- what goes on from this list, at its place, is what goes on from none
pub record Leads (zones : List Zone) (t : TypeMeta) (all : Items) (place : ℕ) (list : ClusterList) (rest : Items)
    : Type 0 where
  pub whole : (end : ClusterList) → AddsItems zones t (place + 1) rest list end → AddsItems zones t 1 all start end

-- Before its first item a list leads to nothing yet, and to all its items.
pub leads_start : (zones : List Zone) (t : TypeMeta) (all : Items) (list : ClusterList) → list ≡ start
    → Leads zones t all 0 list all
leads_start zones t all list is = record { whole = λ end h. subst (λ l. AddsItems zones t 1 all l end) is h }

-- Where a list leads to an item that is added, it leads on to what is behind it.
leads_item : (zones : List Zone) (t : TypeMeta) (all : Items) (place : ℕ) (list more : ClusterList) (d : Data)
    (rest : Items)
    → Leads zones t all place list (item d rest) → AddsItem zones (place + 1) (typed t.kind t.version d) list more
    → Leads zones t all (place + 1) more rest
leads_item zones t all place list more d rest leads adds =
    record { whole = λ end h. leads.whole end (more, adds, h) }

-- For list_of: so it is with a value of a list.
pub leads_value : (zones : List Zone) (t : TypeMeta) (values : List Value) (i place : ℕ) (x : Value)
    (list more : ClusterList)
    → i < length values → x ≡ get_or values i x
    → Leads zones t (items_view values) place list (items_view (drop i values))
    → AddsItem zones (place + 1) (typed t.kind t.version (view x)) list more
    → Leads zones t (items_view values) (place + 1) more (items_view (drop (i + 1) values))
leads_value zones t values i place x list more inside at leads adds =
    leads_item zones t (items_view values) place list more (view x) (items_view (drop (i + 1) values))
    (subst (λ vs. Leads zones t (items_view values) place list (items_view vs)) (rest_at values i x inside at) leads)
    adds

-- For list_of: where a list leads to its end, it is the list of its items.
pub leads_done : (zones : List Zone) (t : TypeMeta) (all : Items) (place : ℕ) (list : ClusterList)
    → Leads zones t all place list no_items → AddsItems zones t 1 all start list
leads_done zones t all place list leads = leads.whole list refl

-- ---- how deep items nest

-- For list_of: the first of some values, and those behind it, nest no deeper than all of them may.
pub flat_at : (values : List Value) (i : ℕ) (x : Value) (n : ℕ) → i < length values → x ≡ get_or values i x
    → items_depth (items_view (drop i values)) ≤ n
    → (depth (view x) ≤ n) × (items_depth (items_view (drop (i + 1) values)) ≤ n)
flat_at values i x n inside at h =
    parts (subst (λ vs. items_depth (items_view vs) ≤ n) (rest_at values i x inside at) h)
  where
    parts : items_depth (items_view (x ∷ drop (i + 1) values)) ≤ n
        → (depth (view x) ≤ n) × (items_depth (items_view (drop (i + 1) values)) ≤ n)
    parts k = (omega (arith, k), omega (arith, k))

-- The items of an array nest no deeper than the array may.
of_array : (d : Data) (ds : Items) (n : ℕ) → depth d ≤ n → as_array d ≡ Some ds → items_depth ds ≤ n
of_array null ds n h is = absurd (cc is)
of_array (boolean b) ds n h is = absurd (cc is)
of_array (number m) ds n h is = absurd (cc is)
of_array (string s) ds n h is = absurd (cc is)
of_array (array es) ds n h is = subst (λ x. items_depth x ≤ n) (same es ds is) (omega (arith, h))
  where
    same : (xs ys : Items) → Some xs ≡ Some ys → xs ≡ ys
    same xs ys e = cc e
of_array (object ms) ds n h is = absurd (cc is)

-- For of_listed: so it is with an array that is found.
of_found : (o : Option Data) (ds : Items) (n : ℕ) → ((e : Data) → o ≡ Some e → depth e ≤ n)
    → option_and_then as_array o ≡ Some ds → items_depth ds ≤ n
of_found None ds n h is = absurd (cc is)
of_found (Some e) ds n h is = of_array e ds n (h e refl) is

-- A value is as deep as the list of it alone.
of_single : (d : Data) (ds : Items) (n : ℕ) → depth d ≤ n → Some (item d no_items) ≡ Some ds → items_depth ds ≤ n
of_single d ds n h is = subst (λ x. items_depth x ≤ n) (same (item d no_items) ds is) (omega (arith, h))
  where
    same : (xs ys : Items) → Some xs ≡ Some ys → xs ≡ ys
    same xs ys e = cc e

-- For flat_items: by whether the kind is a list's, and whether it is an object's.
by_kind : (list single : Bool) (d : Data) (ds : Items) (n : ℕ) → depth d ≤ n
    → (if list then listed d else (if single then Some (item d no_items) else None)) ≡ Some ds → items_depth ds ≤ n
by_kind true single d ds n h is =
    of_found (present (codes "items") d) ds n (λ e. depth-present (codes "items") d e n h) is
by_kind false true d ds n h is = of_single d ds n h is
by_kind false false d ds n h is = absurd (cc is)

-- For flat_items: by the text that the kind is.
by_text : (kind : Option (List ℕ)) (d : Data) (ds : Items) (n : ℕ) → depth d ≤ n
    → option_and_then (items_for d) kind ≡ Some ds → items_depth ds ≤ n
by_text None d ds n h is = absurd (cc is)
by_text (Some kind) d ds n h is = by_kind (is_list kind) (is_single kind) d ds n h is

-- For read_cluster: the objects that are printed nest no deeper than the value may.
pub flat_items : (d : Data) (ds : Items) (n : ℕ) → depth d ≤ n → items_of d ≡ Some ds → items_depth ds ≤ n
flat_items d ds n h is = by_text (text_at (codes "kind") d) d ds n h is

-- For flat_list: by whether the kind is a list's.
by_list : (list : Bool) (d : Data) (ds : Items) (n : ℕ) → depth d ≤ n
    → (if list then listed d else None) ≡ Some ds → items_depth ds ≤ n
by_list true d ds n h is = of_found (present (codes "items") d) ds n (λ e. depth-present (codes "items") d e n h) is
by_list false d ds n h is = absurd (cc is)

-- For flat_list: by the text that the kind is.
by_list_text : (kind : Option (List ℕ)) (d : Data) (ds : Items) (n : ℕ) → depth d ≤ n
    → option_and_then (list_items_for d) kind ≡ Some ds → items_depth ds ≤ n
by_list_text None d ds n h is = absurd (cc is)
by_list_text (Some kind) d ds n h is = by_list (is_list kind) d ds n h is

-- For split: the objects of a list nest no deeper than the value may.
pub flat_list : (d : Data) (ds : Items) (n : ℕ) → depth d ≤ n → list_items d ≡ Some ds → items_depth ds ≤ n
flat_list d ds n h is = by_list_text (text_at (codes "kind") d) d ds n h is

-- ---- an item with its list's kind and version

-- For put_flat: by where the member goes.
put_at : (o : Ordering) (k : List ℕ) (s : List ℕ) (l : List ℕ) (e : Data) (ms : Members)
    → members_depth (put k (string s) ms) ≤ members_depth ms
    → members_depth (match_ordering o (member k (string s) (member l e ms)) (member l (string s) ms)
    (member l e (put k (string s) ms))) ≤ members_depth (member l e ms)
put_at Less k s l e ms h = omega arith
put_at Equal k s l e ms h = omega arith
put_at Greater k s l e ms h = omega (arith, h)

-- Members with a text among them nest no deeper than without it.
put_flat : (k s : List ℕ) (ms : Members) → members_depth (put k (string s) ms) ≤ members_depth ms
put_flat k s no_members = omega arith
put_flat k s (member l e ms) = put_at (slice_cmp nat_cmp k l) k s l e ms (put_flat k s ms)

-- For typed_flat: nor does a value.
text_flat : (k s : List ℕ) (d : Data) → depth (with_text k s d) ≤ depth d
text_flat k s null = omega arith
text_flat k s (boolean b) = omega arith
text_flat k s (number n) = omega arith
text_flat k s (string t) = omega arith
text_flat k s (array ds) = omega arith
text_flat k s (object ms) = omega (arith, put_flat k s ms)

-- For typed_flat: nor does an item with its list's version.
version_flat : (version : Option (List ℕ)) (d : Data) → depth (with_version version d) ≤ depth d
version_flat None d = omega arith
version_flat (Some version) d = text_flat (codes "apiVersion") version d

-- For typed_copy: an item with its list's kind and version nests no deeper.
pub typed_flat : (kind : List ℕ) (version : Option (List ℕ)) (d : Data)
    → depth (with_text (codes "kind") kind (with_version version d)) ≤ depth d
typed_flat kind version d =
    omega (arith, text_flat (codes "kind") kind (with_version version d), version_flat version d)

-- For typed_copy: so it is with a copy of it, made in steps.
pub copy_flat : (kind : List ℕ) (version : Option (List ℕ)) (d e f g : Data) → e ≡ d → f ≡ with_version version e
    → g ≡ with_text (codes "kind") kind f → depth g ≤ depth d
copy_flat kind version d e f g same versioned typed_is =
    let whole = typed_is ∙ ap (λ x. with_text (codes "kind") kind x) (versioned ∙ ap (with_version version) same) in
    subst (λ x. depth x ≤ depth d) (sym whole) (typed_flat kind version d)
