-- The key of a manifest whose name and namespace have no fault.
use Rattle.std.proofs.Common.{◌≡◌, ℕ, List, [], ◌∷◌, Option, Some, None, Result, Ok, Err, refl, sym, ap, codes, ◌∙◌}
use Rattle.std.specs.Result.{result_err}
use Rattle.std.specs.Str.{chars}
use Rattle.serde_json.specs.Data.{Data}
use Rattle.cj_base.specs.declared.cause.Cause.{Cause}
use Rattle.cj_base.specs.declared.refusal.Refusal.{Refusal}
use Rattle.cj_base.specs.declared.refusal.Refusal.TheVariants as Of
use Rattle.cj_base.specs.declared.refusal.Refusal.TheVariants.{OutOfMemory}
use Rattle.cj_base.specs.declared.faults.FieldFault.{FieldFault}
use Rattle.cj_types.specs.Keys.{Place, place, key_or_faults, new_key, key_faults}
use Rattle.cj_types.specs.Names.{name_cause, namespace_cause, is_label}
use Rattle.cj_manifest.specs.declared.kind.ObjectKind.{ObjectKind}
use Rattle.cj_manifest.specs.Values.{unless, and_then, required, or_default, text}
use Rattle.cj_manifest.specs.Values as read
use Rattle.cj_manifest.specs.Table as fields
use Rattle.cj_manifest.specs.Drafts.{value_or, key_of}
use Rattle.cj_manifest.specs.Reading.{IsNamed}

-- A text that a row lets through has no cause against it, and is what the row gives.
pub kept : (o : Option Cause) (s : List ℕ) → result_err (unless o s) ≡ None
    → (o ≡ None) × (value_or [] (unless o s) ≡ s)
kept None s h = (refl, refl)
kept (Some c) s h = absurd (cc h)

-- What a row gives of a text that it lets through has no cause against it.
checked : (cause : List ℕ → Option Cause) (r : Result (List ℕ) Cause)
    → result_err (and_then (λ s. unless (cause s) s) r) ≡ None
    → cause (value_or [] (and_then (λ s. unless (cause s) s) r)) ≡ None
checked cause (Err c) h = absurd (cc h)
checked cause (Ok s) h = let k = kept (cause s) s h in ap cause k.1 ∙ k.0

-- The name that a manifest gives, where its row has no cause, is a well formed one.
pub name_given : (limit : ℕ) (o : Option Data) → result_err (required (read.name limit) o) ≡ None
    → name_cause limit (value_or [] (required (read.name limit) o)) ≡ None
name_given limit None h = absurd (cc h)
name_given limit (Some d) h = checked (name_cause limit) (text d) h

-- The namespace that is taken by default is a well formed one.
default_namespace : namespace_cause (codes "default") ≡ None
unfolding is_label chars
default_namespace = refl

-- The namespace that a manifest gives, or else the default one, is well formed.
pub namespace_given : (o : Option Data) → result_err (or_default (codes "default") read.namespace o) ≡ None
    → namespace_cause (value_or [] (or_default (codes "default") read.namespace o)) ≡ None
namespace_given None h = default_namespace
namespace_given (Some d) h = checked namespace_cause (text d) h

-- Where the rows of the name and the namespace have no cause, the key of the two has no fault.
no_faults : (k : ObjectKind) (m : Data) → IsNamed k m
    → key_faults (fields.name_limit k) (key_of k m).namespace (key_of k m).name ≡ []
no_faults k m h =
    let name = name_given (fields.name_limit k) _ h.0 in
    let namespace = namespace_given _ h.1 in
    rw (name, namespace) refl

-- For key_is: where a place is taken for a key, the key is that place.
found : (fs : List FieldFault) (p k : Place) → key_or_faults fs p ≡ Ok k → k ≡ p
found [] p k h = cc h
found (f ∷ fs) p k h = absurd (cc h)

-- For not_refused: a place without a fault isn't refused as a key.
refused : (fs : List FieldFault) (p : Place) (e : Refusal) → fs ≡ [] → key_or_faults fs p ≡ Err e → ⊥
refused [] p e is h = cc h
refused (f ∷ fs) p e is h = cc is

-- the key that is made is the manifest's
pub key_is : (limit : ℕ) (n m : List ℕ) (k : Place) → new_key limit n m ≡ Ok k → k ≡ place n m
key_is limit n m k h = found (key_faults limit n m) (place n m) k h

-- and it isn't refused
pub not_refused : (k : ObjectKind) (m : Data) (e : Refusal) → IsNamed k m
    → new_key (fields.name_limit k) (key_of k m).namespace (key_of k m).name ≡ Err e → ⊥
not_refused k m e h is = refused (key_faults (fields.name_limit k) (key_of k m).namespace (key_of k m).name)
    (key_of k m) e
    (no_faults k m h) is

-- A refusal that can't be any but OutOfMemory is OutOfMemory.
settled : (e : Refusal) → ((e ≡ OutOfMemory → ⊥) → ⊥) → e ≡ OutOfMemory
settled Of.Syntax h = absurd (h (λ q. cc q))
settled (Of.Invalid fs) h = absurd (h (λ q. cc q))
settled Of.NotPermitted h = absurd (h (λ q. cc q))
settled Of.NotFound h = absurd (h (λ q. cc q))
settled Of.AlreadyExists h = absurd (h (λ q. cc q))
settled (Of.Conflict v) h = absurd (h (λ q. cc q))
settled (Of.Expired v) h = absurd (h (λ q. cc q))
settled Of.OutOfPhase h = absurd (h (λ q. cc q))
settled Of.Stale h = absurd (h (λ q. cc q))
settled Of.Empty h = absurd (h (λ q. cc q))
settled Of.ShutDown h = absurd (h (λ q. cc q))
settled Of.HistoryFull h = absurd (h (λ q. cc q))
settled Of.Estranged h = absurd (h (λ q. cc q))
settled Of.OutOfMemory h = refl
settled Of.AlreadyFinished h = absurd (h (λ q. cc q))

-- so only memory can be wanting
pub memory_alone : (k : ObjectKind) (m : Data) (n l : List ℕ) (e : Refusal) → IsNamed k m → n ≡ (key_of k m).namespace
    → l ≡ (key_of k m).name → ((e ≡ OutOfMemory → ⊥) → new_key (fields.name_limit k) n l ≡ Err e) → e ≡ OutOfMemory
memory_alone k m n l e h in_n in_l is =
    settled e (λ no. not_refused k m e h (ap (λ x. new_key (fields.name_limit k) x (key_of k m).name) (sym in_n)
    ∙ ap (λ y. new_key (fields.name_limit k) n y) (sym in_l) ∙ is no))
