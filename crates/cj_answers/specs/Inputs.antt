-- What the commands take for the bytes of an input.
use Rattle.std.specs.Prelude.{◌≡◌, ◌⊎◌, ◌≤◌, ℕ, true, List, [], ◌∷◌}
use Rattle.std.specs.List.{filter}
use Rattle.serde_json.specs.Data.{Data, depth}
use Rattle.serde_json.specs.Read.{max_depth}
use Rattle.cj_manifest.specs.Reading.{IsNoValue, Reads}
use Rattle.cj_yaml.specs.ReadOf.{IsReadOf}
use Rattle.cj_answers.specs.declared.json.TextShape.TheVariants.{Plain}
use Rattle.cj_answers.specs.Json.{shape_of}
use Rattle.cj_answers.specs.Objects.{AreOf, IsListFor, IsTakenFor, is_said, is_several}

-- the bytes are JSON of a value, if it nests no deeper than JSON is read
abbrev pub IsTextOf : Data → List ℕ → Type 0
IsTextOf d bytes = depth d ≤ max_depth → Reads bytes d

-- the bytes that were read are no JSON, but YAML, and what is taken is JSON of what is taken for
-- the documents in it that say anything
-- rule: yaml-input
pub record IsOfYaml (read taken : List ℕ) : Type 0 where
  pub none : IsNoValue read
  pub shape : shape_of read ≡ Plain
  pub found : List Data
  pub documents : IsReadOf read found
  pub value : Data
  pub for_them : IsTakenFor (filter is_said found) value
  pub text : IsTextOf value taken

-- the bytes are JSON of one value whose objects are taken for it, or of no value by themselves, but
-- of several values
-- rule: several-input
abbrev pub AreSeveral : List ℕ → List Data → Type 0
AreSeveral read ds =
    (IsNoValue read × AreOf read ds)
    ⊎ ((d : Data) × Reads read d × (is_several d ≡ true) × (ds ≡ d ∷ []))

-- what is taken for them is JSON of the list of the objects in them
-- rule: several-input
pub record IsOfSeveral (read taken : List ℕ) : Type 0 where
  pub values : List Data
  pub several : AreSeveral read values
  pub value : Data
  pub list : IsListFor values value
  pub text : IsTextOf value taken

-- what is taken for the bytes that were read: they, with nothing said of them; or else JSON of what
-- they say as YAML, as several values, as an array or as a watch
-- rules: yaml-input, several-input
abbrev pub IsTaken : List ℕ → List ℕ → List ℕ → Type 0
IsTaken read taken said =
    ((taken ≡ read) × (said ≡ [])) ⊎ IsOfYaml read taken ⊎ IsOfSeveral read taken
