-- What is told of an item of a list, by whether an item before it is the same object.
use Rattle.std.proofs.Common.{◌≡◌, ℕ, List, Bool, true, false, not, Option, Some, None, refl, subst}
use Rattle.cj_base.specs.declared.refusal.Refusal.{Refusal}
use Rattle.cj_manifest.specs.declared.manifest.Manifest.{Manifest}
use Rattle.cj_manifest.specs.Either.{manifest_draft, manifest_faults, manifest_warnings}
use Rattle.cj_manifest.specs.Reading.{IsReading, IsRefused}
use Rattle.cj_zone.specs.declared.zone.Zone.{Zone}
use Rattle.cj_check.specs.Seen.{AddsKey, IsItem, is_taken}
use Rattle.cj_check.specs.declared.seen.SeenKeys.{SeenKeys}

-- For item_free: what isn't, is false.
is_false : (b : Bool) → not b ≡ true → false ≡ b
is_false false h = refl
is_false true h = h

-- For item_taken: what isn't not, is true.
is_true : (b : Bool) → not b ≡ false → true ≡ b
is_true false h = h
is_true true h = refl

-- For manifest_report: no item before is the object of this manifest.
pub item_free : (zones : List Zone) (seen later : SeenKeys) (text : List ℕ) (m : Manifest) (ws : List (List ℕ))
    (Told : Bool → Option Manifest → Type 0)
    → IsReading Manifest (manifest_faults zones) manifest_draft manifest_warnings text m ws
    → not (is_taken m seen) ≡ true → AddsKey m seen later → Told false (Some m) → IsItem zones seen later text Told
item_free zones seen later text m ws Told reading free adds told = record {
  found = Some m;
  found_is = (ws, reading);
  told = subst (λ b. Told b (Some m)) (is_false (is_taken m seen) free) told;
  keys = adds;
}

-- For manifest_report: one is.
pub item_taken : (zones : List Zone) (seen later : SeenKeys) (text : List ℕ) (m : Manifest) (ws : List (List ℕ))
    (Told : Bool → Option Manifest → Type 0)
    → IsReading Manifest (manifest_faults zones) manifest_draft manifest_warnings text m ws
    → not (is_taken m seen) ≡ false → AddsKey m seen later → Told true (Some m) → IsItem zones seen later text Told
item_taken zones seen later text m ws Told reading free adds told = record {
  found = Some m;
  found_is = (ws, reading);
  told = subst (λ b. Told b (Some m)) (is_true (is_taken m seen) free) told;
  keys = adds;
}

-- For refused_item: the text is no manifest without a fault.
pub item_refused : (zones : List Zone) (seen : SeenKeys) (text : List ℕ) (e : Refusal)
    (Told : Bool → Option Manifest → Type 0) → IsRefused (manifest_faults zones) text e → Told false None
    → IsItem zones seen seen text Told
item_refused zones seen text e Told refused told = record {
  found = None;
  found_is = (e, refused);
  told = told;
  keys = refl;
}
