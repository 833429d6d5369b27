-- The objects of a list that came before.
use Rattle.std.specs.Prelude.{◌≡◌, ℕ, List, [], Bool, false, Option, None, Some}
use Rattle.std.specs.BTreeSet.{BTreeSet, contains, insert_key}
use Rattle.cj_base.specs.declared.refusal.Refusal.{Refusal}
use Rattle.cj_manifest.specs.declared.manifest.Manifest.{Manifest}
use Rattle.cj_manifest.specs.declared.manifest.Manifest.TheVariants as Of
use Rattle.cj_manifest.specs.Either.{key_of, manifest_draft, manifest_faults, manifest_warnings}
use Rattle.cj_manifest.specs.Reading.{IsReading, IsRefused}
use Rattle.cj_types.specs.Keys.{Place, place_cmp}
use Rattle.cj_zone.specs.declared.zone.Zone.{Zone}
use Rattle.cj_check.specs.declared.seen.SeenKeys.{SeenKeys}

-- there is none
pub record IsNoneSeen (s : SeenKeys) : Type 0 where
  pub crons : s.crons.keys ≡ []
  pub runs : s.runs.keys ≡ []

-- the keys of the objects of its kind
abbrev pub keys_for : Manifest → SeenKeys → BTreeSet Place
keys_for (Of.CronJob draft) s = s.crons
keys_for (Of.Job draft) s = s.runs

-- one of them has its key
-- rule: check-list
abbrev pub is_taken : Manifest → SeenKeys → Bool
is_taken m s = contains place_cmp (keys_for m s) (key_of m)

-- those, and this one
abbrev pub AddsKey : Manifest → SeenKeys → SeenKeys → Type 0
AddsKey (Of.CronJob draft) old new =
    (new.crons.keys ≡ insert_key place_cmp old.crons.keys draft.key) × (new.runs ≡ old.runs)
AddsKey (Of.Job draft) old new =
    (new.runs.keys ≡ insert_key place_cmp old.runs.keys draft.key) × (new.crons ≡ old.crons)

-- ---- an item

-- no manifest without a fault, or this one
abbrev pub IsFound : List Zone → List ℕ → Option Manifest → Type 0
IsFound zones text None = (e : Refusal) × IsRefused (manifest_faults zones) text e
IsFound zones text (Some m) =
    (ws : List (List ℕ))
    × IsReading Manifest (manifest_faults zones) manifest_draft manifest_warnings text m ws

abbrev pub is_taken_in : Option Manifest → SeenKeys → Bool
is_taken_in None s = false
is_taken_in (Some m) s = is_taken m s

abbrev pub KeysAfter : Option Manifest → SeenKeys → SeenKeys → Type 0
KeysAfter None old new = new ≡ old
KeysAfter (Some m) old new = AddsKey m old new

-- what is found of an item's text, by whether an earlier item is the same object, and which that is
-- rule: check-list
pub record IsItem (zones : List Zone) (seen later : SeenKeys) (text : List ℕ)
    (Told : Bool → Option Manifest → Type 0) : Type 0 where
  pub found : Option Manifest
  pub found_is : IsFound zones text found
  pub told : Told (is_taken_in found seen) found
  pub keys : KeysAfter found seen later

-- and of the items behind it
pub record NextItem (zones : List Zone) (seen : SeenKeys) (text : List ℕ)
    (Told : Bool → Option Manifest → Type 0) (Rest : SeenKeys → Type 0) : Type 0 where
  pub later : SeenKeys
  pub item : IsItem zones seen later text Told
  pub rest : Rest later
