-- The members of a scenario's manifest that are dropped, as its warnings tell.
use Rattle.std.specs.Prelude.{◌≡◌, ◌⊎◌, ℕ, List, [], codes, Bool, true, false, Option, None, Some}
use Rattle.serde_json.specs.Data.{Data}
use Rattle.cj_manifest.specs.Members.{present}
use Rattle.cj_manifest.specs.Reading.{IsNoValue, Reads}
use Rattle.cj_manifest.specs.Warnings.{cron_warnings}
use Rattle.cj_answers.specs.Advice.{dropped_words_all}

-- a line for each
-- rule: explain-dropped
abbrev pub dropped_in : Option Data → List ℕ
dropped_in None = []
dropped_in (Some manifest) = dropped_words_all (cron_warnings manifest)

-- the bytes are this value
pub record ReadsDropped (bytes : List ℕ) (words : List ℕ) : Type 0 where
  pub value : Data
  pub reads : Reads bytes value
  pub are : words ≡ dropped_in (present (codes "manifest") value)

-- of bytes that are no JSON nothing is said
abbrev pub IsDropped : List ℕ → List ℕ → Type 0
IsDropped bytes words = ReadsDropped bytes words ⊎ (IsNoValue bytes × (words ≡ []))

-- where people ask for it
-- rule: explain-dropped
abbrev pub IsAskedDropped : Bool → List ℕ → List ℕ → Type 0
IsAskedDropped true bytes words = IsDropped bytes words
IsAskedDropped false bytes words = words ≡ []
