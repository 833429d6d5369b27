-- What is written of an object reads as it was written: its numbers fit, its names rise, and it nests no
-- deeper than JSON is read.
use Rattle.std.proofs.Common.{ℕ, suc, ◌^◌, ◌<◌, ◌≤◌, List, [], ◌∷◌, map, Bool, codes, Option, Some, None, decimal, arith}
use Rattle.std.specs.Ordering.{match_ordering}
use Rattle.std.specs.declared.cmp.Ordering.{Ordering}
use Rattle.std.specs.declared.cmp.Ordering.TheVariants.{Less, Equal, Greater}
use Rattle.serde_json.specs.Data.{Data, boolean, number, string, array, object, unsigned, Members, no_members, member, put, depth, items_depth, members_depth}
use Rattle.serde_json.specs.View.{items_of}
use Rattle.cj_types.specs.declared.meta.Meta.{Meta}
use Rattle.cj_types.specs.declared.owners.OwnerRef.{OwnerRef}
use Rattle.cj_types.specs.declared.policy.Outcome.{Outcome}
use Rattle.cj_types.specs.declared.policy.Outcome.TheVariants.{Complete, Failed}
use Rattle.cj_types.specs.Keys.{Place}
use Rattle.cj_types.specs.LabelMap.{text_cmp}
use Rattle.cj_types.specs.Uids.{uid_text}
use Rattle.cj_zone.specs.TimeText.{time_text_of}
use Rattle.cj_json.specs.Parts.{put_some_text, put_some_time, put_some_object, put_some_list, put_labels, label_members, owner_data}
use Rattle.cj_json.specs.Objects.{condition, job_status_members, object_data}
use Rattle.cj_manifest.proofs.TextTrips.{IsBack, ItemsAreBack, IsObject, put_back, put_rises, unsigned_fine}

-- members that read back, whose values nest at most so deep
pub record Fits (n : ℕ) : Type 0 where
  pub ms : Members
  pub back : IsObject ms
  pub flat : members_depth ms ≤ n

-- a value that does
pub record IsFlat (n : ℕ) (d : Data) : Type 0 where
  pub back : IsBack d
  pub flat : depth d ≤ n

-- For put_flat: of three lists of members that nest at most so deep, the chosen one does.
placed : (o : Ordering) (a b c : Members) (n : ℕ) → members_depth a ≤ n → members_depth b ≤ n → members_depth c ≤ n
    → members_depth (match_ordering o a b c) ≤ n
placed Less a b c n p q r = p
placed Equal a b c n p q r = q
placed Greater a b c n p q r = r

-- Members that nest at most so deep still do with a value put in that nests at most so deep.
pub put_flat : (k : List ℕ) (d : Data) (ms : Members) (n : ℕ) → depth d ≤ n → members_depth ms ≤ n
    → members_depth (put k d ms) ≤ n
put_flat k d no_members n h p = omega (arith, h)
put_flat k d (member l e ms) n h p =
    let rest : members_depth ms ≤ n = omega (arith, p) in
    let later = put_flat k d ms n h rest in
    placed (text_cmp k l) (member k d (member l e ms)) (member l d ms) (member l e (put k d ms)) n (omega (arith, h, p))
    (omega (arith, h, rest)) (omega (arith, p, later))

-- ---- members put in

abbrev pub value : (n : ℕ) (k : List ℕ) (d : Data) → IsFlat n d → Fits n → Fits n
value n k d h p = record {
  ms = put k d p.ms;
  back = (put_back k d p.ms h.back p.back.0, put_rises k d p.ms p.back.1);
  flat = put_flat k d p.ms n h.flat p.flat;
}

-- A text reads back, and nests within any depth.
pub flat_text : (n : ℕ) (s : List ℕ) → IsFlat n (string s)
flat_text n s = record { back = tt; flat = omega arith }

-- A truth value reads back, and nests within any depth.
pub flat_truth : (n : ℕ) (b : Bool) → IsFlat n (boolean b)
flat_truth n b = record { back = tt; flat = omega arith }

-- A number below 2 ^ 64 reads back, and nests within any depth.
pub flat_count : (n c : ℕ) → c < 2 ^ 64 → IsFlat n (number (unsigned c))
flat_count n c h = record { back = unsigned_fine c h; flat = omega arith }

-- An object reads back where its members do, and nests one deeper than they.
pub flat_object : (n : ℕ) (p : Fits n) → IsFlat (suc n) (object p.ms)
flat_object n p = record { back = p.back; flat = omega (arith, p.flat) }

abbrev pub text : (n : ℕ) → List ℕ → List ℕ → Fits n → Fits n
text n k s p = value n k (string s) (flat_text n s) p

abbrev pub truth : (n : ℕ) → List ℕ → Bool → Fits n → Fits n
truth n k b p = value n k (boolean b) (flat_truth n b) p

abbrev pub count : (n : ℕ) (k : List ℕ) (c : ℕ) → c < 2 ^ 64 → Fits n → Fits n
count n k c h p = value n k (number (unsigned c)) (flat_count n c h) p

-- An object without a member has members within any depth.
pub none_flat : (n : ℕ) → members_depth no_members ≤ n
none_flat n = omega arith

abbrev pub none : (n : ℕ) → Fits n
none n = record { ms = no_members; back = (tt, tt); flat = none_flat n }

-- members that are these
pub record Are (n : ℕ) (ms : Members) : Type 0 where
  pub back : IsObject ms
  pub flat : members_depth ms ≤ n

abbrev pub are : (n : ℕ) (p : Fits n) → Are n p.ms
are n p = record { back = p.back; flat = p.flat }

abbrev pub fit : (n : ℕ) (ms : Members) → Are n ms → Fits n
fit n ms h = record { ms = ms; back = h.back; flat = h.flat }

-- Members that read back still do with a text put in, where there is one.
pub some_text_is : (n : ℕ) (k : List ℕ) (o : Option (List ℕ)) (p : Fits n) → Are n (put_some_text k o p.ms)
some_text_is n k None p = are n p
some_text_is n k (Some s) p = are n (text n k s p)

abbrev pub some_text : (n : ℕ) → List ℕ → Option (List ℕ) → Fits n → Fits n
some_text n k o p = fit n (put_some_text k o p.ms) (some_text_is n k o p)

-- Members that read back still do with a time put in, where there is one.
pub some_time_is : (n : ℕ) (k : List ℕ) (o : Option ℕ) (p : Fits n) → Are n (put_some_time k o p.ms)
some_time_is n k None p = are n p
some_time_is n k (Some t) p = are n (text n k (time_text_of t) p)

abbrev pub some_time : (n : ℕ) → List ℕ → Option ℕ → Fits n → Fits n
some_time n k o p = fit n (put_some_time k o p.ms) (some_time_is n k o p)

-- Members that read back still do with an object put in that does, unless it is empty.
pub some_object_is : (n : ℕ) (k : List ℕ) (inner : Members) (h : Are n inner) (p : Fits (suc n))
    → Are (suc n) (put_some_object k inner p.ms)
some_object_is n k no_members h p = are (suc n) p
some_object_is n k (member l e ms) h p = are (suc n)
    (value (suc n) k (object (member l e ms)) (flat_object n (fit n (member l e ms) h)) p)

abbrev pub some_object : (n : ℕ) → List ℕ → Fits n → Fits (suc n) → Fits (suc n)
some_object n k inner p = fit (suc n) (put_some_object k inner.ms p.ms) (some_object_is n k inner.ms (are n inner) p)

record ItemsFit (n : ℕ) (ds : List Data) : Type 0 where
  pub back : ItemsAreBack (items_of ds)
  pub flat : items_depth (items_of ds) ≤ n

-- The items that are written of a list read back where each alone does.
items_fit : {A : Type 0} (n : ℕ) (f : A → Data) → ((a : A) → IsFlat n (f a)) → (xs : List A) → ItemsFit n (map f xs)
items_fit n f h [] = record { back = tt; flat = omega arith }
items_fit n f h (x ∷ xs) = let one = h x in let rest
    = items_fit n f h xs in record { back = (one.back, rest.back); flat = omega (arith, one.flat, rest.flat) }

-- Members that read back still do with a list put in whose items do, unless it is empty.
pub some_list_is : {A : Type 0} (n : ℕ) (k : List ℕ) (f : A → Data) (h : (a : A)
    → IsFlat n (f a)) (xs : List A) (p : Fits (suc n)) → Are (suc n) (put_some_list k (map f xs) p.ms)
some_list_is n k f h [] p = are (suc n) p
some_list_is n k f h (x ∷ xs) p =
    let all = items_fit n f h (x ∷ xs) in
    are (suc n) (value (suc n) k (array (items_of (map f (x ∷ xs))))
    (record { back = all.back; flat = omega (arith, all.flat) }) p)

abbrev pub some_list : {A : Type 0} (n : ℕ) (k : List ℕ) (f : A → Data) (h : (a : A) → IsFlat n (f a)) (xs : List A)
    → Fits (suc n) → Fits (suc n)
some_list n k f h xs p = fit (suc n) (put_some_list k (map f xs) p.ms) (some_list_is n k f h xs p)

-- Members that read back still do with the texts of labels put in one after another.
labels_are : (n : ℕ) (ls : List (List ℕ × List ℕ)) (p : Fits n) → Are n (label_members p.ms ls)
labels_are n [] p = are n p
labels_are n (l ∷ ls) p = labels_are n ls (text n l.0 l.1 p)

-- Members that read back still do with an object of labels put in, where there are any.
pub put_labels_is : (n : ℕ) (k : List ℕ) (ls : List (List ℕ × List ℕ)) (p : Fits (suc n))
    → Are (suc n) (put_labels k ls p.ms)
put_labels_is n k [] p = are (suc n) p
put_labels_is n k (l ∷ ls) p =
    let inner = labels_are n (l ∷ ls) (none n) in
    are (suc n) (value (suc n) k (object (label_members no_members (l ∷ ls)))
    (flat_object n (fit n (label_members no_members (l ∷ ls)) inner)) p)

abbrev pub labels : (n : ℕ) → List ℕ → List (List ℕ × List ℕ) → Fits (suc n) → Fits (suc n)
labels n k ls p = fit (suc n) (put_labels k ls p.ms) (put_labels_is n k ls p)

-- ---- the parts of an object

-- A written owner reference reads back, and nests at most one deep.
pub owner_flat : (n : ℕ) (o : OwnerRef) → IsFlat (suc n) (owner_data o)
owner_flat n o = flat_object n (text n (codes "uid") o.uid
    (text n (codes "name") o.name (text n (codes "kind") o.kind
    (truth n (codes "controller") o.controller (truth n (codes "blockOwnerDeletion") o.block_owner_deletion
    (text n (codes "apiVersion") o.api_version (none n)))))))

abbrev pub metadata : (n : ℕ) (key : Place) (meta : Meta) (owners : List OwnerRef) → meta.generation < 2 ^ 64
    → Fits (suc (suc n))
metadata n key meta owners h =
    some_list (suc n) (codes "ownerReferences") owner_data (owner_flat n) owners (
    labels (suc n) (codes "labels") meta.labels (
    labels (suc n) (codes "annotations") meta.annotations (
    text (suc (suc n)) (codes "uid") (uid_text meta.uid) (
    text (suc (suc n)) (codes "resourceVersion") (decimal meta.version) (
    text (suc (suc n)) (codes "namespace") key.namespace (
    text (suc (suc n)) (codes "name") key.name (
    count (suc (suc n)) (codes "generation") meta.generation h (
    text (suc (suc n)) (codes "creationTimestamp") (time_text_of meta.created) (none (suc (suc n)))))))))))

-- A written object reads back where metadata, spec and status do, and nests one deeper than these.
pub whole_flat : (n : ℕ) (kind : List ℕ) (meta : Fits n) (spec : Data) (status : Fits n) → IsFlat (suc n) spec
    → IsFlat (suc (suc n)) (object_data kind meta.ms spec status.ms)
whole_flat n kind meta spec status h =
    flat_object (suc n) (
    some_object n (codes "status") status (
    value (suc n) (codes "spec") spec h (
    value (suc n) (codes "metadata") (object meta.ms) (flat_object n meta) (
    text (suc n) (codes "kind") kind (
    text (suc n) (codes "apiVersion") (codes "batch/v1") (none (suc n)))))))

-- A written condition of a Job reads back, and nests at most one deep.
condition_flat : (n : ℕ) (kind : List ℕ) → IsFlat (suc n) (condition kind)
condition_flat n kind = flat_object n (text n (codes "type") kind (text n (codes "status") (codes "True") (none n)))

abbrev one : (n : ℕ) → List ℕ → Fits (suc (suc n))
one n kind = some_list (suc n) (codes "conditions") condition (condition_flat n) (kind ∷ []) (none (suc (suc n)))

-- The members of a written Job's status read back, whatever the outcome is.
pub job_status_is : (n : ℕ) (o : Option Outcome) → Are (suc (suc n)) (job_status_members o)
job_status_is n None = are (suc (suc n)) (none (suc (suc n)))
job_status_is n (Some (Complete t)) = are (suc (suc n))
    (text (suc (suc n)) (codes "completionTime") (time_text_of t) (one n (codes "Complete")))
job_status_is n (Some Failed) = are (suc (suc n)) (one n (codes "Failed"))

abbrev pub job_status : (n : ℕ) (o : Option Outcome) → Fits (suc (suc n))
job_status n o = fit (suc (suc n)) (job_status_members o) (job_status_is n o)
