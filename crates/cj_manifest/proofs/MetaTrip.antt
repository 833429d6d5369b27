-- The metadata of a written object has no fault, and says what the object has.
use Rattle.std.proofs.Common.{◌≡◌, ◌≢◌, ◌++◌, ◌/◌, ◌%◌, ◌==◌, ℕ, zero, suc, List, [], ◌∷◌, length, map, Bool, true, false, cond, codes, Option, Some, None, Result, Ok, decimal, refl, ap, ap₂, ◌∙◌, arith, ne_eqb}
use Rattle.std.specs.Fmt.{digits, digits_onto, digit_glyph}
use Rattle.std.specs.Result.{result_err}
use Rattle.serde_json.specs.Data.{Data, string}
use Rattle.cj_base.specs.declared.cause.Cause.{Cause}
use Rattle.cj_base.specs.declared.field.Field.{Field}
use Rattle.cj_base.specs.declared.field.Field.TheVariants as At
use Rattle.cj_types.specs.declared.meta.DraftMeta.{DraftMeta}
use Rattle.cj_types.specs.declared.meta.Meta.{Meta}
use Rattle.cj_types.specs.declared.owners.OwnerRef.{OwnerRef}
use Rattle.cj_types.specs.Keys.{Place, place, fault_of}
use Rattle.cj_types.specs.Names.{name_cause, namespace_cause}
use Rattle.cj_types.specs.Uids.{uid_text}
use Rattle.cj_json.specs.Parts.{owner_data}
use Rattle.cj_manifest.specs.declared.kind.ObjectKind.{ObjectKind}
use Rattle.cj_manifest.specs.declared.kind.ObjectKind.TheVariants as Of
use Rattle.cj_manifest.specs.Drafts.{given, value_or, unless_empty, label_map, owners_in, key_of, meta_of, owners_of}
use Rattle.cj_manifest.specs.Faults.{fault_by, owner_faults, metadata_faults}
use Rattle.cj_manifest.specs.Owners as owners
use Rattle.cj_manifest.specs.Values.{unless, required, optional, or_default, text, texts}
use Rattle.cj_manifest.specs.Values as read
use Rattle.cj_manifest.specs.Table as fields
use Rattle.cj_manifest.specs.Reading.{IsNamed}
use Rattle.cj_manifest.proofs.KeyLemmas.{name_given, namespace_given}
use Rattle.cj_manifest.proofs.LabelTrips.{labels_sound, labels_said}
use Rattle.cj_manifest.proofs.OwnerTrips.{owners_sound, owners_said}
use Rattle.cj_manifest.proofs.Rising.{rises}
use Rattle.cj_manifest.proofs.WrittenParts.{MetaIs}

-- Where neither of two lists of faults has one, the two together have none.
pub no_faults : {A : Type 0} (xs ys : List A) → xs ≡ [] → ys ≡ [] → xs ++ ys ≡ []
no_faults xs ys h k = ap₂ (λ a b. a ++ b) h k

-- a row without a cause
pub no_fault : {A : Type 0} (f : Field) (r : Result A Cause) → result_err r ≡ None → fault_by f r ≡ []
no_fault f r h = ap (fault_of f) h

-- ---- texts that aren't empty

-- A text with a first character isn't empty.
cons_some : (x : ℕ) (xs : List ℕ) → x ∷ xs ≢ []
cons_some x xs h = cc h

-- For digits_some: a text with a first character or one not empty, whichever it is, isn't empty.
either_some : (b : Bool) (x : ℕ) (xs ys : List ℕ) → ys ≢ [] → cond b (x ∷ xs) ys ≢ []
either_some true x xs ys h = cons_some x xs
either_some false x xs ys h = h

-- Digits that are put before a text which isn't empty make one which isn't.
digits_some : (k n x : ℕ) (xs : List ℕ) → digits_onto k 10 false n (x ∷ xs) ≢ []
digits_some zero n x xs = cons_some x xs
digits_some (suc k) n x xs =
    let d = digit_glyph false (n % 10) in either_some (n / 10 == 0) d (x ∷ xs) _ (digits_some k (n / 10) d (x ∷ xs))

-- The decimal of a number is never the empty text.
decimal_some : (n : ℕ) → decimal n ≢ []
unfolding digits
decimal_some n = let d = digit_glyph false (n % 10) in either_some (n / 10 == 0) d [] _ (digits_some 63 (n / 10) d [])

-- A text that isn't empty counts as given.
some_text : (xs : List ℕ) → xs ≢ [] → unless_empty (Some xs) ≡ Some xs
some_text [] h = absurd (h refl)
some_text (x ∷ xs) h = rw (ne_eqb (length (x ∷ xs)) 0 (λ e. omega arith)) refl

-- ---- the whole

pub record IsNamedWell (k : ObjectKind) (key : Place) : Type 0 where
  pub name : name_cause (fields.name_limit k) key.name ≡ None
  pub namespace : namespace_cause key.namespace ≡ None

-- The key of a manifest whose name and namespace have no cause is well formed.
pub named_well : (k : ObjectKind) (m : Data) → IsNamed k m → IsNamedWell k (key_of k m)
named_well k m h = record { name = name_given (fields.name_limit k) _ h.0; namespace = namespace_given _ h.1 }

-- what the metadata of an object is as a draft's
abbrev pub meta_draft : Meta → DraftMeta
meta_draft meta = record {
  uid = Some (uid_text meta.uid);
  version = Some (decimal meta.version);
  labels = meta.labels;
  annotations = meta.annotations;
}

pub record MetaSays (k : ObjectKind) (key : Place) (meta : Meta) (os : List OwnerRef) (m : Data) : Type 0 where
  pub sound : metadata_faults k m ≡ []
  pub key_is : key_of k m ≡ key
  pub meta_is : meta_of m ≡ meta_draft meta
  pub owners_are : owners_of m ≡ os

-- The row of a written name that is well formed gives that name.
name_row : (limit : ℕ) (n : List ℕ) (o : Option Data) → o ≡ Some (string n) → name_cause limit n ≡ None
    → required (read.name limit) o ≡ Ok n
name_row limit n o h k = ap (required (read.name limit)) h ∙ ap (λ c. unless c n) k

-- The row of a written namespace that is well formed gives that namespace.
namespace_row : (n : List ℕ) (o : Option Data) → o ≡ Some (string n) → namespace_cause n ≡ None
    → or_default (codes "default") read.namespace o ≡ Ok n
namespace_row n o h k = ap (or_default (codes "default") read.namespace) h ∙ ap (λ c. unless c n) k

-- Where the row of the owner references has no cause, a manifest of either kind has no such fault.
owners_clear : (k : ObjectKind) (os : List OwnerRef) (m : Data) → result_err (fields.owners m) ≡ None
    → owner_faults k m ≡ []
owners_clear Of.Cron os m h = refl
owners_clear Of.Job os m h = no_fault At.OwnerReferences (fields.owners m) h

-- The metadata written of a well formed object has no fault and says what the object has.
pub meta_says : (k : ObjectKind) (key : Place) (meta : Meta) (os : List OwnerRef) (m : Data) → IsNamedWell k key
    → rises meta.labels → rises meta.annotations
    → MetaIs key meta (map owner_data os) meta.labels meta.annotations m → MetaSays k key meta os m
meta_says k key meta os m named labels annotations is =
    let name : fields.name k m ≡ Ok key.name = name_row (fields.name_limit k) key.name _ is.name named.name in
    let namespace : fields.namespace m ≡ Ok key.namespace
    = namespace_row key.namespace _ is.namespace named.namespace in
    let uid : fields.uid m ≡ Ok (Some (uid_text meta.uid)) = ap (optional text) is.uid in
    let version : fields.resource_version m ≡ Ok (Some (decimal meta.version)) = ap (optional text) is.version in
    let sound_labels : result_err (fields.labels m) ≡ None = ap (λ o. result_err (optional texts o)) is.labels
    ∙ labels_sound meta.labels labels in
    let sound_annotations : result_err (fields.annotations m) ≡ None =
    ap (λ o. result_err (optional texts o)) is.annotations ∙ labels_sound meta.annotations annotations in
    let sound_owners : result_err (fields.owners m) ≡ None = ap (λ o. result_err (optional owners.owners o)) is.owners
    ∙ owners_sound os in
    let uid_is = ap (λ r. unless_empty (given r)) uid ∙ some_text (uid_text meta.uid) (λ e. cc e) in
    let version_is = ap (λ r. unless_empty (given r)) version ∙ some_text (decimal meta.version)
    (decimal_some meta.version) in
    let labels_are = ap (λ o. label_map (given (optional texts o))) is.labels ∙ labels_said meta.labels labels in
    let annotations_are = ap (λ o. label_map (given (optional texts o))) is.annotations
    ∙ labels_said meta.annotations annotations in
    record {
      sound =
          no_faults _ _ (no_faults _ _ (no_faults _ _ (no_faults _ _ (no_faults _ _ (no_faults _ _
          (no_fault At.Name (fields.name k m) (ap result_err name))
          (no_fault At.Namespace (fields.namespace m) (ap result_err namespace)))
          (no_fault At.Labels (fields.labels m) sound_labels))
          (no_fault At.Annotations (fields.annotations m) sound_annotations))
          (no_fault At.Uid (fields.uid m) (ap result_err uid)))
          (no_fault At.ResourceVersion (fields.resource_version m) (ap result_err version)))
          (owners_clear k os m sound_owners);
      key_is = ap₂ (λ a b. place (value_or [] a) (value_or [] b)) namespace name;
      meta_is = λ i. record {
        uid = uid_is i;
        version = version_is i;
        labels = labels_are i;
        annotations = annotations_are i;
      };
      owners_are = ap (λ o. owners_in (given (optional owners.owners o))) is.owners ∙ owners_said os;
    }
