-- The texts of a list's items, one after another.
use Rattle.std.proofs.Common.{◌≡◌, ◌<◌, ◌≤◌, ◌+◌, ℕ, List, [], ◌∷◌, ◌++◌, length, drop, get_or, sym, subst, append_assoc, append-nil}
use Rattle.std.proofs.lemmas.List.{drop_all}
use Rattle.serde_json.specs.Data.{Data, Items, no_items, item}
use Rattle.serde_json.specs.View.{items_view, view}
use Rattle.serde_json.specs.declared.value.Value.{Value}
use Rattle.cj_manifest.specs.Reading.{Reads}
use Rattle.cj_cluster.specs.kubectl.Lists.{typed}
use Rattle.cj_cluster.specs.kubectl.Reading.{TypeMeta}
use Rattle.cj_cluster.specs.kubectl.Texts.{AreTexts}
use Rattle.cj_cluster.proofs.KubectlLemmas.Places.{rest_at}

-- with the texts of the rest behind these, they are those of all
pub record Begins (t : TypeMeta) (all : Items) (texts : List (List ℕ)) (rest : Items) : Type 0 where
  pub whole : (more : List (List ℕ)) → AreTexts t rest more → AreTexts t all (texts ++ more)

-- Before the first item, no text begins them.
pub begins_none : (t : TypeMeta) (all : Items) (texts : List (List ℕ)) → texts ≡ [] → Begins t all texts all
begins_none t all texts is = record {
  whole = λ more h. subst (λ xs. AreTexts t all (xs ++ more)) (sym is) h;
}

-- With the text of the next item, the texts go on.
begins_item : (t : TypeMeta) (all : Items) (texts : List (List ℕ)) (d : Data) (rest : Items) (text : List ℕ)
    → Begins t all texts (item d rest) → Reads text (typed t.kind t.version d) → Begins t all (texts ++ text ∷ []) rest
begins_item t all texts d rest text begins reads = record {
  whole = λ more h. subst (AreTexts t all) (sym (append_assoc texts (text ∷ []) more))
      (begins.whole (text ∷ more) (reads, h));
}

-- For texts_of: so it is with a value of a list.
pub begins_value : (t : TypeMeta) (values : List Value) (i : ℕ) (x : Value) (texts : List (List ℕ)) (text : List ℕ)
    (longer : List (List ℕ)) → i < length values → x ≡ get_or values i x
    → Begins t (items_view values) texts (items_view (drop i values)) → Reads text (typed t.kind t.version (view x))
    → longer ≡ texts ++ text ∷ [] → Begins t (items_view values) longer (items_view (drop (i + 1) values))
begins_value t values i x texts text longer inside at begins reads is =
    subst (λ xs. Begins t (items_view values) xs (items_view (drop (i + 1) values))) (sym is)
    (begins_item t (items_view values) texts (view x) (items_view (drop (i + 1) values)) text
    (subst (λ vs. Begins t (items_view values) texts (items_view vs)) (rest_at values i x inside at) begins) reads)

-- For begins_end: where no item is left, the texts are those of all.
begins_all : (t : TypeMeta) (all : Items) (texts : List (List ℕ)) → Begins t all texts no_items → AreTexts t all texts
begins_all t all texts begins = subst (AreTexts t all) (nothing texts) (begins.whole [] tt)
  where
    nothing : (xs : List (List ℕ)) → xs ++ [] ≡ xs
    nothing xs = append-nil xs

-- For texts_of: so it is behind the last value of a list.
pub begins_end : (t : TypeMeta) (values : List Value) (i : ℕ) (texts : List (List ℕ)) → length values ≤ i
    → Begins t (items_view values) texts (items_view (drop i values)) → AreTexts t (items_view values) texts
begins_end t values i texts past begins =
    begins_all t (items_view values) texts
    (subst (λ vs. Begins t (items_view values) texts (items_view vs)) (drop_all i values past) begins)
