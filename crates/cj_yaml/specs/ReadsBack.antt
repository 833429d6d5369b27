-- That what is printed of a text reads back.
use Rattle.std.specs.Prelude.{◌≡◌, ◌⊎◌, ℕ, List, Some, IsUtf8}
use Rattle.serde_json.specs.Data.{Data, string}
use Rattle.serde_json.specs.Read.{read}
use Rattle.cj_yaml.specs.Words.{IsPlainText, IsPrinted}

-- what stands as a value is read as a text: plain, as it is, or in double quotes, as JSON reads it
-- rule: yaml-reads-back
abbrev pub ReadsAs : List ℕ → List ℕ → Type 0
ReadsAs printed t = (IsPlainText printed × (printed ≡ t)) ⊎ (read printed ≡ Some (string t))

-- what is printed of a text reads as that text
-- rule: yaml-reads-back
abbrev pub PrintedReadsBack : Type 0
PrintedReadsBack = (t printed : List ℕ) → IsUtf8 t → IsPrinted t printed → ReadsAs printed t

-- bytes are read as the same values whenever they are read
abbrev pub IsReadInOneWay : (List ℕ → List Data → Type 0) → Type 0
IsReadInOneWay gives =
    (bytes : List ℕ) (found others : List Data) → gives bytes found → gives bytes others
    → found ≡ others
