-- Labels that are written read back as they are.
use Rattle.std.proofs.Common.{◌≡◌, ℕ, List, [], ◌∷◌, true, Option, Some, None, refl, sym, ap, ◌∙◌}
use Rattle.std.specs.Ordering.{match_ordering}
use Rattle.std.specs.declared.cmp.Ordering.{Ordering}
use Rattle.std.specs.declared.cmp.Ordering.TheVariants.{Less, Equal, Greater}
use Rattle.std.specs.FinMap.Entries.{by_order, is_sorted-put}
use Rattle.std.specs.Result.{result_err}
use Rattle.std.proofs.lemmas.Cmp.{nat_list_cmp_total}
use Rattle.serde_json.specs.Data.{Data, string, object, Members, no_members, member, put}
use Rattle.serde_json.specs.Find.{as_str}
use Rattle.cj_types.specs.LabelMap.{text_cmp, put_label}
use Rattle.cj_json.specs.Parts.{label_members}
use Rattle.cj_manifest.specs.Drafts.{given, with_label, labels_onto, label_map}
use Rattle.cj_manifest.specs.Values.{optional, texts, all_texts}
use Rattle.cj_manifest.proofs.Rising.{Named, rises, onto, onto_nothing}

abbrev pub Entries : Type 0
Entries = Named (List ℕ)

-- each name with its text
abbrev as_members : Entries → Members
as_members [] = no_members
as_members (l ∷ ls) = member l.0 (string l.1) (as_members ls)

-- Of three lists of entries, the members of the chosen one are the one chosen of their members.
by_members : (o : Ordering) (a b c : Entries) → as_members (by_order o a b c)
    ≡ match_ordering o (as_members a) (as_members b) (as_members c)
by_members Less a b c = refl
by_members Equal a b c = refl
by_members Greater a b c = refl

-- A label put in among labels is, in their members, its text put in at its name.
as_members-put : (k v : List ℕ) (ls : Entries) → as_members (put_label k v ls) ≡ put k (string v) (as_members ls)
as_members-put k v [] = refl
as_members-put k v (l ∷ ls) =
    by_members (text_cmp k l.0) _ _ _
    ∙ ap (λ rest. match_ordering (text_cmp k l.0) (member k (string v) (as_members (l ∷ ls)))
    (member l.0 (string v) (as_members ls)) (member l.0 (string l.1) rest)) (as_members-put k v ls)

-- Labels written one after another onto those there are the members of all put in.
written_onto : (done ls : Entries) → label_members (as_members done) ls ≡ as_members (onto done ls)
written_onto done [] = refl
written_onto done (l ∷ ls) = ap (λ ms. label_members ms ls) (sym (as_members-put l.0 l.1 done))
    ∙ written_onto (put_label l.0 l.1 done) ls

-- The members of labels, read one after another onto labels, are those labels put in.
read_onto : (done ls : Entries) → labels_onto done (as_members ls) ≡ onto done ls
read_onto done [] = refl
read_onto done (l ∷ ls) = read_onto (put_label l.0 l.1 done) ls

-- what is written of labels in order says them
written_as : (ls : Entries) → rises ls → label_members no_members ls ≡ as_members ls
written_as ls h = written_onto [] ls ∙ ap as_members (onto_nothing ls h)

-- What is written of labels in order reads back as those labels.
labels_back : (ls : Entries) → rises ls → labels_onto [] (label_members no_members ls) ≡ ls
labels_back ls h = ap (labels_onto []) (written_as ls h) ∙ read_onto [] ls ∙ onto_nothing ls h

-- Each member of labels is a text.
texts_alone : (ls : Entries) → all_texts (as_members ls) ≡ true
texts_alone [] = refl
texts_alone (l ∷ ls) = texts_alone ls

-- Each member that is written of labels in order is a text.
written_texts : (ls : Entries) → rises ls → all_texts (label_members no_members ls) ≡ true
written_texts ls h = ap all_texts (written_as ls h) ∙ texts_alone ls

-- ---- labels of a manifest are in order

-- Labels in order are still in order with a member's text put in, where it is one.
put_sorted : (k : List ℕ) (v : Option (List ℕ)) (ls : Entries) → rises ls → rises (with_label k v ls)
put_sorted k None ls h = h
put_sorted k (Some v) ls h = is_sorted-put text_cmp nat_list_cmp_total k v ls h

-- Labels in order are still in order with all members of an object put in.
onto_sorted : (ms : Members) (ls : Entries) → rises ls → rises (labels_onto ls ms)
onto_sorted no_members ls h = h
onto_sorted (member k d ms) ls h = onto_sorted ms (with_label k (as_str d) ls) (put_sorted k (as_str d) ls h)

-- The labels or the annotations that a manifest gives are in order.
pub in_order : (o : Option Members) → rises (label_map o)
in_order None = tt
in_order (Some ms) = onto_sorted ms [] tt

-- ---- the row of written labels

-- what is written of labels, where there are any
abbrev pub labels_data : Entries → Option Data
labels_data [] = None
labels_data (l ∷ ls) = Some (object (label_members no_members (l ∷ ls)))

-- has no fault ..
pub labels_sound : (ls : Entries) → rises ls → result_err (optional texts (labels_data ls)) ≡ None
labels_sound [] h = refl
labels_sound (l ∷ ls) h = rw (written_texts (l ∷ ls) h) refl

-- .. and says the labels
pub labels_said : (ls : Entries) → rises ls → label_map (given (optional texts (labels_data ls))) ≡ ls
labels_said [] h = refl
labels_said (l ∷ ls) h = rw (written_texts (l ∷ ls) h) (labels_back (l ∷ ls) h)
