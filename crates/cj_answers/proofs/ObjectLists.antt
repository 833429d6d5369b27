-- Lists that take in the objects in values.
use Rattle.std.proofs.Common.{◌≡◌, ◌⊎◌, inl, inr, ℕ, List, [], ◌∷◌, ◌++◌, ◌&&◌, Bool, true, false, Option, Some, None, String, Global, string_bytes, string_cmp, refl, sym, ap, ◌∙◌, subst, append_assoc, append-nil, arith, zero, suc, ◌+◌, ◌<◌, ◌≤◌, ◌||◌, ◌==◌, length, drop, get_or, map, unwrap_or, true≢false, Vec, cond, flat_map, not, is_some}
use Rattle.std.proofs.lemmas.List.Folds.{list_all-append}
use Rattle.std.proofs.lemmas.List.{drop_all, length-append, map-append, nil_from_length}
use Rattle.std.proofs.Math.ListN.{set}
use Rattle.std.proofs.Math.Seq.{drop-cons}
use Rattle.std.specs.List.{filter, list_all, list_any}
use Rattle.std.specs.BTreeMap.{insert_entry}
use Rattle.std.specs.Vec.{vec_len}
use Rattle.std.specs.Vec.Iter.{into_iter_items, into_iter_len}
use Rattle.std.specs.declared.vec.IntoIter.{IntoIter}
use Rattle.serde_json.specs.Data.{Data, no_items, put}
use Rattle.serde_json.specs.Find.{as_array, as_null}
use Rattle.serde_json.specs.View.{items_of, view, members_view}
use Rattle.serde_json.specs.declared.value.Value.{Value, Array}
use Rattle.serde_json.proofs.Views.{members_view-insert_entry, view-Array}
use Rattle.cj_manifest.specs.Reading.{Reads}
use Rattle.cj_yaml.specs.ReadOf.{values}
use Rattle.cj_yaml.specs.declared.document.Document.{Document}
use Rattle.cj_answers.specs.Json.{is_blank}
use Rattle.cj_answers.specs.Objects.{IsListFor, IsTakenFor, alone, is_alone, several, AreOf, no_more, more, IsBehind, is_between, IsIn, here, further, TakesIn, are_said_once, has_object, has_uid, is_object, kept, objects_in, objects_said, says_once, is_said, left_of, listed}

-- For put: one member more.
pub member_put : (es new : List (String Global × Value)) (key : String Global) (k : List ℕ) (v : Value)
    → new ≡ insert_entry string_cmp es key v → string_bytes key ≡ k
    → members_view new ≡ put k (view v) (members_view es)
member_put es new key k v e said =
    ap members_view e ∙ members_view-insert_entry es key v ∙ ap (λ x. put x (view v) (members_view es)) said

-- What is in the front of a list is in the list.
in_front : (d : Data) (xs ys : List Data) → IsIn d xs → IsIn d (xs ++ ys)
in_front d [] ys i = elim i [ ]
in_front d (x ∷ xs) ys here = here
in_front d (x ∷ xs) ys (further i) = further (in_front d xs ys i)

-- What is behind the front of a list is in the list.
behind_front : (d : Data) (xs ys : List Data) → IsIn d ys → IsIn d (xs ++ ys)
behind_front d [] ys i = i
behind_front d (x ∷ xs) ys i = further (behind_front d xs ys i)

-- One place further.
further_either : (d x : Data) (xs ys : List Data) → IsIn d xs ⊎ IsIn d ys → IsIn d (x ∷ xs) ⊎ IsIn d ys
further_either d x xs ys (inl i) = inl (further i)
further_either d x xs ys (inr i) = inr i

-- What is in a list is in its front or behind it.
in_either : (d : Data) (xs ys : List Data) → IsIn d (xs ++ ys) → IsIn d xs ⊎ IsIn d ys
in_either d [] ys i = inr i
in_either d (x ∷ xs) ys here = inl here
in_either d (x ∷ xs) ys (further i) = further_either d x xs ys (in_either d xs ys i)

-- Nothing is taken in.
pub takes_none : (once : Bool) (a : List Data) → TakesIn once [] a a
takes_none once a =
    record { no_other = λ d i. subst (IsIn d) (sym (append-nil a)) i; all = λ _. sym (append-nil a) }

-- For takes_then: of one that is in it.
in_both : (d : Data) (a xs ys b : List Data) → (IsIn d b → IsIn d (a ++ xs)) → IsIn d b ⊎ IsIn d ys
    → IsIn d (a ++ (xs ++ ys))
in_both d a xs ys b other (inl i) = subst (IsIn d) (append_assoc a xs ys) (in_front d (a ++ xs) ys (other i))
in_both d a xs ys b other (inr i) = subst (IsIn d) (append_assoc a xs ys) (behind_front d (a ++ xs) ys i)

-- For takes_then: both were said once.
both_once : (p q : Bool) → (p && q) ≡ true → (p ≡ true) × (q ≡ true)
both_once true true e = (refl, refl)
both_once false q e = absurd (true≢false (sym e))
both_once true false e = absurd (true≢false (sym e))

-- Some objects, and then others.
pub takes_then : (p q : Bool) (xs ys a b c : List Data) → TakesIn p xs a b → TakesIn q ys b c
    → TakesIn (p && q) (xs ++ ys) a c
takes_then p q xs ys a b c s t =
    record {
      no_other = λ d i. in_both d a xs ys b (s.no_other d) (in_either d b ys (t.no_other d i));
      all = λ e. t.all (both_once p q e).1 ∙ ap (λ x. x ++ ys) (s.all (both_once p q e).0) ∙ append_assoc a xs ys;
    }

-- An object behind all others.
pub left_pushed : (vs : List (Option Value)) (v : Option Value)
    → left_of (vs ++ v ∷ []) ≡ left_of vs ++ left_of (v ∷ [])
left_pushed [] v = refl
left_pushed (None ∷ vs) v = left_pushed vs v
left_pushed (Some x ∷ vs) v = ap (λ ds. view x ∷ ds) (left_pushed vs v)

-- What takes in the rest has taken in all.
pub record Going (once : Bool) (left now : List Data) (all : Bool) (objects old : List Data) : Type 0 where
  pub ends : (new : List Data) → TakesIn once left now new → TakesIn all objects old new

-- Nothing is taken in yet.
pub going_begins : (once : Bool) (objects old : List Data) → Going once objects old once objects old
going_begins once objects old = record { ends = λ new t. t }

-- Some are taken in.
pub going_on : (p q all : Bool) (xs ys now next objects old : List Data)
    → Going (p && q) (xs ++ ys) now all objects old → TakesIn p xs now next → Going q ys next all objects old
going_on p q all xs ys now next objects old g s =
    record { ends = λ new t. g.ends new (takes_then p q xs ys now next new s t) }

-- All are taken in.
pub going_over : (all : Bool) (now objects old : List Data) → Going true [] now all objects old
    → TakesIn all objects old now
going_over all now objects old g = g.ends now (takes_none true now)

-- The first values of a text, and what is behind them.
pub record BeginOf (ds : List Data) (rest bytes : List ℕ) : Type 0 where
  pub ends : (es : List Data) → AreOf rest es → AreOf bytes (ds ++ es)

-- None is read yet.
pub begin_of : (bytes : List ℕ) → BeginOf [] bytes bytes
begin_of bytes = record { ends = λ es are. are }

-- One value more.
pub one_of_more : (ds : List Data) (d : Data) (rest text next bytes : List ℕ) → BeginOf ds rest bytes
    → IsBehind (text ++ next) rest → Reads text d → BeginOf (ds ++ d ∷ []) next bytes
one_of_more ds d rest text next bytes b front reads =
    record {
      ends = λ es are.
          subst (AreOf bytes) (sym (append_assoc ds (d ∷ []) es)) (b.ends (d ∷ es) (more text front reads are));
    }

-- No value is left.
pub none_of_more : (ds : List Data) (rest bytes : List ℕ) → BeginOf ds rest bytes → IsBehind [] rest
    → AreOf bytes ds
none_of_more ds rest bytes b none = subst (AreOf bytes) (append-nil ds) (b.ends [] (no_more none))

-- Nothing is before all.
pub behind_none : (bytes : List ℕ) → IsBehind bytes bytes
behind_none bytes = record { front = []; between = refl; whole = refl }

-- What is behind one byte more.
pub behind_more : (rest next bytes : List ℕ) (b : ℕ) → IsBehind rest bytes → rest ≡ b ∷ next
    → is_between b ≡ true → IsBehind next bytes
behind_more rest next bytes b i e may =
    record {
      front = i.front ++ b ∷ [];
      between = list_all-append is_between i.front (b ∷ []) ∙ rw (i.between, may) refl;
      whole = i.whole ∙ ap (λ r. i.front ++ r) e ∙ sym (append_assoc i.front (b ∷ []) next);
    }

-- What is behind what is behind.
pub behind_both : (rest middle bytes : List ℕ) → IsBehind middle bytes → IsBehind rest middle → IsBehind rest bytes
behind_both rest middle bytes i j =
    record {
      front = i.front ++ j.front;
      between = list_all-append is_between i.front j.front ∙ rw (i.between, j.between) refl;
      whole = i.whole ∙ ap (λ r. i.front ++ r) j.whole ∙ sym (append_assoc i.front j.front rest);
    }

-- The values of an array, as they are seen.
listed_all : (ds : List Data) → listed (items_of ds) ≡ ds
listed_all [] = refl
listed_all (d ∷ ds) = ap (λ es. d ∷ es) (listed_all ds)

-- For array_items: those of an array.
pub array_listed : (v : Vec Value Global)
    → map view v.items ≡ listed (unwrap_or (as_array (view (Array v))) no_items)
array_listed v = rw (view-Array v) (sym (listed_all (map view v.items)))

-- For has_object: an array has one where one of its values is.
pub array_has_object : (v : Vec Value Global) (b : Bool) → b ≡ list_any is_object (map view v.items)
    → b ≡ has_object (view (Array v))
array_has_object v b e = e ∙ rw (view-Array v) (ap (list_any is_object) (sym (listed_all (map view v.items))))

-- The values to come, seen.
seen_more : (vs : List Value) (i : ℕ) (v : Value) → i < length vs → v ≡ get_or vs i v
    → map view (drop i vs) ≡ view v ∷ map view (drop (i + 1) vs)
seen_more vs i v h at =
    let next : suc i ≡ i + 1 = omega arith in
    ap (map view) (drop-cons vs i v h) ∙ ap (λ x. view x ∷ map view (drop (suc i) vs)) (sym at)
    ∙ ap (λ n. view v ∷ map view (drop n vs)) next

-- For any_object: one is found.
pub any_found : (vs : List Value) (i : ℕ) (v : Value) (all is : Bool) → i < length vs → v ≡ get_or vs i v
    → list_any is_object (map view (drop i vs)) ≡ all → is ≡ is_object (view v) → is ≡ true → true ≡ all
any_found vs i v all is h at same e found =
    ap (λ b. b || list_any is_object (map view (drop (i + 1) vs))) (sym found ∙ e)
    ∙ ap (list_any is_object) (sym (seen_more vs i v h at)) ∙ same

-- For any_object: one is none.
pub any_passed : (vs : List Value) (i : ℕ) (v : Value) (all is : Bool) → i < length vs → v ≡ get_or vs i v
    → list_any is_object (map view (drop i vs)) ≡ all → is ≡ is_object (view v) → is ≡ false
    → list_any is_object (map view (drop (i + 1) vs)) ≡ all
any_passed vs i v all is h at same e none =
    ap (λ b. b || list_any is_object (map view (drop (i + 1) vs))) (sym none ∙ e)
    ∙ ap (list_any is_object) (sym (seen_more vs i v h at)) ∙ same

-- For any_object: none is left.
pub any_over : (vs : List Value) (i : ℕ) (all : Bool) → length vs ≤ i
    → list_any is_object (map view (drop i vs)) ≡ all → false ≡ all
any_over vs i all h same = ap (λ ws. list_any is_object (map view ws)) (sym (drop_all i vs h)) ∙ same

-- All of them are taken in.
takes_all : (once : Bool) (xs a b : List Data) → b ≡ a ++ xs → TakesIn once xs a b
takes_all once xs a b e = record { no_other = λ d i. subst (IsIn d) e i; all = λ same. e }

-- For append: one behind all others.
pub appended : (vs new : List (Option Value)) (v : Option Value) → new ≡ vs ++ v ∷ []
    → TakesIn true (left_of (v ∷ [])) (left_of vs) (left_of new)
appended vs new v e = takes_all true (left_of (v ∷ [])) (left_of vs) (left_of new) (ap left_of e ∙ left_pushed vs v)

-- For replace: nothing has changed.
pub takes_same : (xs a : List Data) → TakesIn false xs a a
takes_same xs a = record { no_other = λ d i. in_front d a xs i; all = λ e. absurd (true≢false (sym e)) }

-- Another front makes no difference.
left_more : (w : Option Value) (vs : List (Option Value)) (d : Data) → IsIn d (left_of vs)
    → IsIn d (left_of (w ∷ vs))
left_more None vs d k = k
left_more (Some x) vs d k = further k

-- For set_in: at the front.
set_first : (w v : Option Value) (vs : List (Option Value)) (d : Data) → IsIn d (left_of (v ∷ vs))
    → IsIn d (left_of (w ∷ vs)) ⊎ IsIn d (left_of (v ∷ []))
set_first w None vs d k = inl (left_more w vs d k)
set_first w (Some x) vs d here = inr here
set_first w (Some x) vs d (further k) = inl (left_more w vs d k)

-- What is left with another object in a place was left before, or is that one.
set_in : (vs : List (Option Value)) (i : ℕ) (v : Option Value) (d : Data) → IsIn d (left_of (set vs i v))
    → IsIn d (left_of vs) ⊎ IsIn d (left_of (v ∷ []))
set_in [] i v d k = inl k
set_in (w ∷ vs) zero v d k = set_first w v vs d k
set_in (None ∷ vs) (suc i) v d k = set_in vs i v d k
set_in (Some y ∷ vs) (suc i) v d here = inl here
set_in (Some y ∷ vs) (suc i) v d (further k) =
    further_either d (view y) (left_of vs) (left_of (v ∷ [])) (set_in vs i v d k)

-- For replaced: in either.
from_either : (d : Data) (xs ys : List Data) → IsIn d xs ⊎ IsIn d ys → IsIn d (xs ++ ys)
from_either d xs ys (inl k) = in_front d xs ys k
from_either d xs ys (inr k) = behind_front d xs ys k

-- For replace: one in the place of another.
pub replaced : (vs new : List (Option Value)) (i : ℕ) (v : Option Value) → new ≡ set vs i v
    → TakesIn false (left_of (v ∷ [])) (left_of vs) (left_of new)
replaced vs new i v e =
    record {
      no_other = λ d k.
          from_either d (left_of vs) (left_of (v ∷ []))
          (set_in vs i v d (subst (λ ws. IsIn d (left_of ws)) e k));
      all = λ no_once. absurd (true≢false (sym no_once));
    }

-- For items_in and its like: one value more is taken in.
pub going_more : (once : List Value → Bool) (objs : List Value → List Data) (before after : List Value) (v : Value)
    (p all : Bool) (xs now next objects old : List Data) → before ≡ v ∷ after
    → once (v ∷ after) ≡ (p && once after) → objs (v ∷ after) ≡ xs ++ objs after
    → Going (once before) (objs before) now all objects old → TakesIn p xs now next
    → Going (once after) (objs after) next all objects old
going_more once objs before after v p all xs now next objects old step e f g s =
    let here = subst (λ vs. Going (once vs) (objs vs) now all objects old) step g in
    let first = subst (λ b. Going b (objs (v ∷ after)) now all objects old) e here in
    going_on p (once after) all xs (objs after) now next objects old
    (subst (λ ys. Going (p && once after) ys now all objects old) f first) s

-- For items_in and its like: all values are taken in.
pub going_done : (once : List Value → Bool) (objs : List Value → List Data) (left : List Value) (all : Bool)
    (now objects old : List Data) → left ≡ [] → once [] ≡ true → objs [] ≡ []
    → Going (once left) (objs left) now all objects old → TakesIn all objects old now
going_done once objs left all now objects old none e f g =
    let here = subst (λ vs. Going (once vs) (objs vs) now all objects old) none g in
    let first = subst (λ b. Going b (objs []) now all objects old) e here in
    going_over all now objects old (subst (λ ys. Going true ys now all objects old) f first)

-- For into_left: what is left of one more.
pub left_on : (left new : List Value) (before after : List (Option Value)) (v : Value) (all : List Data)
    → before ≡ Some v ∷ after → new ≡ left ++ v ∷ [] → map view left ++ left_of before ≡ all
    → map view new ++ left_of after ≡ all
left_on left new before after v all step e is =
    ap (λ vs. map view vs ++ left_of after) e ∙ ap (λ ds. ds ++ left_of after) (map-append view left (v ∷ []))
    ∙ append_assoc (map view left) (view v ∷ []) (left_of after)
    ∙ ap (λ os. map view left ++ left_of os) (sym step) ∙ is

-- For into_left: one more was deleted.
pub left_out : (left : List Value) (before after : List (Option Value)) (all : List Data)
    → before ≡ None ∷ after → map view left ++ left_of before ≡ all → map view left ++ left_of after ≡ all
left_out left before after all step is = ap (λ os. map view left ++ left_of os) (sym step) ∙ is

-- For into_left: all are gone through.
pub left_whole : (left : List Value) (before : List (Option Value)) (all : List Data) → before ≡ []
    → map view left ++ left_of before ≡ all → map view left ≡ all
left_whole left before all none is =
    sym (append-nil (map view left)) ∙ ap (λ os. map view left ++ left_of os) (sym none) ∙ is

-- What is kept of a document that says something.
said_kept : (d : Data) (ds : List Data) (none : Bool) → none ≡ is_some (as_null d) → none ≡ false
    → filter is_said (d ∷ ds) ≡ d ∷ filter is_said ds
said_kept d ds none e no_null =
    ap (λ b. cond (not b) (d ∷ filter is_said ds) (filter is_said ds)) (sym e ∙ no_null)

-- What is kept of one that says nothing.
null_left_out : (d : Data) (ds : List Data) (none : Bool) → none ≡ is_some (as_null d) → none ≡ true
    → filter is_said (d ∷ ds) ≡ filter is_said ds
null_left_out d ds none e null =
    ap (λ b. cond (not b) (d ∷ filter is_said ds) (filter is_said ds)) (sym e ∙ null)

-- For document_values: one document more that says something.
pub said_on : (vs new : List Value) (before after : List Document) (d : Document) (v : Value) (none : Bool)
    (all : List Data) → before ≡ d ∷ after → v ≡ d.value → new ≡ vs ++ v ∷ []
    → none ≡ is_some (as_null (view v)) → none ≡ false → map view vs ++ filter is_said (values before) ≡ all
    → map view new ++ filter is_said (values after) ≡ all
said_on vs new before after d v none all step same e n no_null is =
    let rest = filter is_said (values after) in
    ap (λ ws. map view ws ++ rest) e ∙ ap (λ ds. ds ++ rest) (map-append view vs (v ∷ []))
    ∙ append_assoc (map view vs) (view v ∷ []) rest
    ∙ ap (λ ds. map view vs ++ ds) (sym (said_kept (view v) (values after) none n no_null))
    ∙ ap (λ w. map view vs ++ filter is_said (view w ∷ values after)) same
    ∙ ap (λ ds. map view vs ++ filter is_said (values ds)) (sym step) ∙ is

-- For document_values: one more that says nothing.
pub null_on : (vs : List Value) (before after : List Document) (d : Document) (v : Value) (none : Bool)
    (all : List Data) → before ≡ d ∷ after → v ≡ d.value → none ≡ is_some (as_null (view v)) → none ≡ true
    → map view vs ++ filter is_said (values before) ≡ all → map view vs ++ filter is_said (values after) ≡ all
null_on vs before after d v none all step same n null is =
    ap (λ ds. map view vs ++ ds) (sym (null_left_out (view v) (values after) none n null))
    ∙ ap (λ w. map view vs ++ filter is_said (view w ∷ values after)) same
    ∙ ap (λ ds. map view vs ++ filter is_said (values ds)) (sym step) ∙ is

-- For document_values: all documents are gone through.
pub said_over : (vs : List Value) (left : List Document) (all : List Data) → left ≡ []
    → map view vs ++ filter is_said (values left) ≡ all → map view vs ≡ all
said_over vs left all none is =
    sym (append-nil (map view vs)) ∙ ap (λ ds. map view vs ++ filter is_said (values ds)) (sym none) ∙ is

-- For items_in and its like: nothing is taken in yet.
pub going_starts : (once : List Value → Bool) (objs : List Value → List Data) (left vs : List Value)
    (now old : List Data) → left ≡ vs → now ≡ old → Going (once left) (objs left) now (once vs) (objs vs) old
going_starts once objs left vs now old e f =
    subst (λ ws. Going (once ws) (objs ws) now (once vs) (objs vs) old) (sym e)
    (subst (λ n. Going (once vs) (objs vs) n (once vs) (objs vs) old) (sym f) (going_begins (once vs) (objs vs) old))

-- A blank may stand between two values.
blank_between : (b : ℕ) → is_blank b ≡ true → is_between b ≡ true
blank_between b e = ap (λ x. x || (b == 45)) e

-- For without_blanks: behind one blank more.
pub behind_blank : (rest next bytes : List ℕ) (b : ℕ) (blank : Bool) → IsBehind rest bytes → rest ≡ b ∷ next
    → blank ≡ is_blank b → blank ≡ true → IsBehind next bytes
behind_blank rest next bytes b blank i e same is =
    behind_more rest next bytes b i e (blank_between b (sym same ∙ is))

-- For without_mark: behind the mark.
pub behind_mark : (rest next middle bytes : List ℕ) → IsBehind middle bytes → middle ≡ 45 ∷ 45 ∷ 45 ∷ next
    → IsBehind rest next → IsBehind rest bytes
behind_mark rest next middle bytes i e j =
    behind_both rest middle bytes i (behind_both rest next middle (record { front = 45 ∷ 45 ∷ 45 ∷ []; between = refl; whole = e }) j)

-- Where no value is to come, none is left.
pub nothing_left : {X Z : Type 0} (it : IntoIter X Z) → into_iter_len it ≡ 0 → into_iter_items it ≡ []
nothing_left it e = nil_from_length (into_iter_items it) (sym it.rest.ok.0 ∙ e)

-- For push: the objects in an array.
pub array_takes : (value : Value) (v : Vec Value Global) (a b : List Data) → value ≡ Array v
    → TakesIn (list_all says_once (map view v.items)) (flat_map objects_said (map view v.items)) a b
    → TakesIn (are_said_once (view value)) (objects_in (view value)) a b
array_takes value v a b e t =
    subst (λ x. TakesIn (are_said_once (view x)) (objects_in (view x)) a b) (sym e)
    (subst (λ d. TakesIn (are_said_once d) (objects_in d) a b) (sym (view-Array v))
    (subst (λ ds. TakesIn (list_all says_once ds) (flat_map objects_said ds) a b)
    (sym (listed_all (map view v.items))) t))

-- For values_in: one value more is pushed.
pub value_more : (vs new : List Value) (v : Value) (rest text next bytes : List ℕ)
    → BeginOf (map view vs) rest bytes → IsBehind (text ++ next) rest → Reads text (view v)
    → new ≡ vs ++ v ∷ [] → BeginOf (map view new) next bytes
value_more vs new v rest text next bytes b front reads e =
    subst (λ ds. BeginOf ds next bytes) (sym (ap (map view) e ∙ map-append view vs (v ∷ [])))
    (one_of_more (map view vs) (view v) rest text next bytes b front reads)

-- For push_typed: an item with its type.
pub typed_takes : (d e : Data) (a b : List Data) → d ≡ e → TakesIn (not (has_uid d)) (kept d) a b
    → TakesIn (not (has_uid e)) (kept e) a b
typed_takes d e a b same t = subst (λ x. TakesIn (not (has_uid x)) (kept x) a b) same t

-- For several_taken and its like: whether the values are one, by their slice.
is_one : (vs seen : List Value) (b c : Bool) → seen ≡ vs → b ≡ is_alone (map view seen) → b ≡ c
    → is_alone (map view vs) ≡ c
is_one vs seen b c same e is = ap (λ ws. is_alone (map view ws)) (sym same) ∙ sym e ∙ is

-- For documents_value: the list of the objects.
pub several_taken : (vs seen : List Value) (b : Bool) (d : Data) → seen ≡ vs → b ≡ is_alone (map view seen)
    → b ≡ false → IsListFor (map view vs) d → IsTakenFor (map view vs) d
several_taken vs seen b d same e is l = several (is_one vs seen b false same e is) l

-- For alone_taken: of the values.
one_taken : (vs new : List Value) (v : Value) → is_alone (map view vs) ≡ true → vs ≡ new ++ v ∷ []
    → IsTakenFor (map view vs) (view v)
one_taken [] new v is e = absurd (true≢false (sym is))
one_taken (x ∷ y ∷ vs) new v is e = absurd (true≢false (sym is))
one_taken (x ∷ []) [] v is e =
    let same : x ≡ v = ap (λ ws. get_or ws 0 x) e in
    subst (λ w. IsTakenFor (view x ∷ []) (view w)) same (alone is)
one_taken (x ∷ []) (y ∷ new) v is e =
    let long = ap length e in
    let more = length-append new (v ∷ []) in
    absurd (omega (arith, long, more))

-- For documents_value: the one value.
pub alone_taken : (vs seen new : List Value) (v : Value) (b : Bool) → seen ≡ vs → b ≡ is_alone (map view seen)
    → b ≡ true → vs ≡ new ++ v ∷ [] → IsTakenFor (map view vs) (view v)
alone_taken vs seen new v b same e is popped = one_taken vs new v (is_one vs seen b true same e is) popped

-- For none_alone: of the values.
none_one : (vs : List Value) → is_alone (map view vs) ≡ true → vs ≡ [] → ⊥
none_one vs is e = true≢false (sym is ∙ ap (λ ws. is_alone (map view ws)) e)

-- For documents_value: values that are one are some.
pub none_alone : (v : Vec Value Global) (seen : List Value) (b : Bool) → seen ≡ v.items
    → b ≡ is_alone (map view seen) → b ≡ true → vec_len v ≡ 0 → ⊥
none_alone v seen b same e is none =
    none_one v.items (is_one v.items seen b true same e is) (nil_from_length v.items (sym v.ok.0 ∙ none))
