-- What `--explain` says of bytes that are no JSON (RFC 8259).
use Rattle.std.specs.Prelude.{◌≡◌, ◌⊎◌, ℕ, ◌<◌, ◌==◌, ◌||◌, Bool, false, not, List, [], ◌∷◌, ◌++◌, length, take, Option, None, Some, codes, decimal, if◌then◌else◌}
use Rattle.std.specs.List.{find}
use Rattle.serde_json.specs.Data.{Data}
use Rattle.cj_manifest.specs.Reading.{Reads}
use Rattle.cj_yaml.specs.declared.place.Place.{Place}
use Rattle.cj_yaml.specs.Places.{IsPlaceIn}
use Rattle.cj_answers.specs.declared.json.TextShape.{TextShape}
use Rattle.cj_answers.specs.Suggestion.{begins, behind}
use Rattle.cj_answers.specs.declared.json.TextShape.TheVariants.{Empty, Braced, Marked, Plain}

-- ---- what the text looks like

-- a space, a tab, a line feed or a carriage return
abbrev pub is_blank : ℕ → Bool
is_blank byte = byte == 32 || byte == 9 || byte == 10 || byte == 13

-- it begins with `{` or with `[`
abbrev pub is_brace : ℕ → Bool
is_brace byte = byte == 123 || byte == 91

abbrev pub shape_by : Option ℕ → TextShape
shape_by None = Empty
shape_by (Some byte) = if is_brace byte then Braced else Plain

abbrev pub first_byte : List ℕ → Option ℕ
first_byte bytes = find (λ byte. not (is_blank byte)) bytes

-- the text begins so
abbrev pub is_braced : Option ℕ → Bool
is_braced None = false
is_braced (Some byte) = is_brace byte

-- it begins so behind a byte order mark
-- rule: explain-json
abbrev pub is_marked : List ℕ → Bool
is_marked bytes =
    if begins (239 ∷ 187 ∷ 191 ∷ []) bytes
    then is_braced (first_byte (behind (239 ∷ 187 ∷ 191 ∷ []) bytes)) else false

-- by the first byte that is no blank
-- rule: explain-json
abbrev pub shape_of : List ℕ → TextShape
shape_of bytes = if is_marked bytes then Marked else shape_by (first_byte bytes)

-- ---- what is said of it

-- rule: explain-json
abbrev pub json_line : ℕ → ℕ → List ℕ
json_line line column = codes "FILE: no JSON at line "
    ++ (decimal line ++ (codes ", column " ++ (decimal column ++ codes "\n")))

-- rule: explain-json
abbrev pub empty_words : List ℕ
empty_words = codes "FILE: empty; JSON or YAML is wanted\n"

-- rule: explain-json
abbrev pub several_words : List ℕ
several_words =
    codes "FILE: several values, one behind another: each has to be JSON, and one an object with a kind\n"

-- what is said of JSON behind a byte order mark
-- rule: explain-json
abbrev pub marked_words : List ℕ
marked_words = codes "FILE: a byte order mark is before the JSON, which has none\n"

-- the line on a place at which a text is no YAML, and why
-- rule: explain-yaml
abbrev pub yaml_line : Place → List ℕ → List ℕ
yaml_line place why = codes "FILE: no YAML at line "
    ++ (decimal place.line
    ++ (codes ", column " ++ (decimal place.column ++ (codes ": " ++ (why ++ codes "\n")))))

-- that it is YAML, but neither a mapping nor a list
-- rule: explain-yaml
abbrev pub scalar_words : List ℕ
scalar_words = codes "FILE: neither a mapping nor a list of YAML; cronsim crontab reads a crontab\n"

-- the place is one in the text; why it is no YAML isn't stated
-- rule: explain-yaml
pub record IsNoYaml (bytes words : List ℕ) : Type 0 where
  pub place : Place
  pub why : List ℕ
  pub inside : IsPlaceIn bytes place
  pub are : words ≡ yaml_line place why

-- rule: explain-yaml
abbrev pub IsYamlWords : List ℕ → List ℕ → Type 0
IsYamlWords bytes words = (words ≡ scalar_words) ⊎ IsNoYaml bytes words

-- the bytes begin with a JSON value, and go on behind it
-- rule: explain-json
pub record IsFollowed (bytes : List ℕ) : Type 0 where
  pub count : ℕ
  pub value : Data
  pub first : Reads (take count bytes) value
  pub more : count < length bytes

-- where more is behind a value, that this is so
abbrev pub IsMore : List ℕ → List ℕ → Type 0
IsMore bytes words = (words ≡ []) ⊎ ((words ≡ several_words) × IsFollowed bytes)

-- the line with the place at which `serde_json` finds a fault, and what is behind it; which place
-- it is isn't stated
pub record IsPlaced (More : List ℕ → Type 0) (words : List ℕ) : Type 0 where
  pub line : ℕ
  pub column : ℕ
  pub more : List ℕ
  pub is_more : More more
  pub are : words ≡ json_line line column ++ more

-- by what the text looks like: only one that neither begins as JSON does nor is empty may be YAML
-- rules: explain-json, explain-yaml
abbrev pub IsWordsFor : TextShape → List ℕ → List ℕ → Type 0
IsWordsFor Empty bytes words = words ≡ empty_words
IsWordsFor Braced bytes words = IsPlaced (IsMore bytes) words
IsWordsFor Marked bytes words = IsPlaced (λ more. more ≡ marked_words) words
IsWordsFor Plain bytes words = IsPlaced (IsYamlWords bytes) words

-- rule: explain-json
abbrev pub IsJsonWords : List ℕ → List ℕ → Type 0
IsJsonWords bytes words = IsWordsFor (shape_of bytes) bytes words
