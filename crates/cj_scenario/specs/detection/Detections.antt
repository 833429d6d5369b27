-- What is said of a text of JSON (RFC 8259) where one of a certain form is wanted.
use Rattle.std.specs.Prelude.{◌≡◌, ◌⊎◌, ℕ, List, [], ◌∷◌, ◌++◌, codes, Option, Some, None, if◌then◌else◌}
use Rattle.serde_json.specs.Data.{Data, Members, no_members, member}
use Rattle.serde_json.specs.Find.{as_object}
use Rattle.cj_manifest.specs.Reading.{IsNoValue, Reads}
use Rattle.cj_scenario.specs.declared.detection.form.Form.{Form}
use Rattle.cj_scenario.specs.declared.detection.form.Form.TheVariants as A
use Rattle.cj_scenario.specs.detection.Forms.{form_of, form_words, knows}
use Rattle.cj_scenario.specs.detection.Fractions.{fraction_words}

-- what the text is, where it isn't what is wanted
-- rule: explain-input
abbrev pub form_line : Form → Form → List ℕ
form_line A.List A.List = []
form_line A.Manifest A.Manifest = []
form_line A.Scenario A.Scenario = []
form_line A.Script A.Script = []
form_line A.Simulation A.Simulation = []
form_line wanted found = form_words found

abbrev pub ignored_line : List ℕ → List ℕ
ignored_line key = key ++ codes ": no member that is known here, so it is ignored\n"

-- a line for each member that a text of this form hasn't
-- rule: explain-ignored
abbrev pub ignored_in : Form → Members → List ℕ
ignored_in form no_members = []
ignored_in form (member k d ms) = if knows form k then ignored_in form ms else ignored_line k
    ++ ignored_in form ms

abbrev pub ignored_of : Form → Option Members → List ℕ
ignored_of form (Some ms) = ignored_in form ms
ignored_of form None = []

-- a line where there is one, else others
abbrev pub or_else : List ℕ → List ℕ → List ℕ
or_else [] others = others
or_else (b ∷ bs) others = b ∷ bs

-- of a manifest its first number with a fraction, else the members that nobody reads
abbrev pub rest_words : Form → Data → List ℕ
rest_words A.Manifest d = fraction_words d
rest_words A.List d = ignored_of A.List (as_object d)
rest_words A.Scenario d = ignored_of A.Scenario (as_object d)
rest_words A.Script d = ignored_of A.Script (as_object d)
rest_words A.Simulation d = ignored_of A.Simulation (as_object d)
rest_words A.Other d = ignored_of A.Other (as_object d)

-- what a value is, where it is of another form; else what there is to say of it
-- rules: explain-input, explain-ignored, explain-fraction
abbrev pub detection_words : Form → Data → List ℕ
detection_words wanted d = or_else (form_line wanted (form_of d)) (rest_words wanted d)

-- the bytes are this value
pub record IsSeen (wanted : Form) (bytes : List ℕ) (words : List ℕ) : Type 0 where
  pub value : Data
  pub reads : Reads bytes value
  pub are : words ≡ detection_words wanted value

-- of bytes that are no JSON nothing is said
abbrev pub IsDetection : Form → List ℕ → List ℕ → Type 0
IsDetection wanted bytes words = IsSeen wanted bytes words ⊎ (IsNoValue bytes × (words ≡ []))
