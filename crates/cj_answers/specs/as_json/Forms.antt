-- The form of what is printed: lines, or one value, in JSON (RFC 8259) on a line or in YAML.
use Rattle.std.specs.Prelude.{◌≡◌, ◌≤◌, ℕ, List, ◌++◌, ◌||◌, Bool, false, Some, bytes_eq, codes}
use Rattle.serde_json.specs.Data.{Data, depth}
use Rattle.serde_json.specs.Read.{read, max_depth}
use Rattle.serde_json.specs.Written.{IsInOrder, compact_text, has_float}

-- ---- which form

-- rule: output
abbrev pub is_yaml : List ℕ → Bool
is_yaml text = bytes_eq text (codes "yaml")

-- one value is wanted: what is printed in YAML is made of the JSON
-- rule: output
abbrev pub is_json : List ℕ → Bool
is_json text = bytes_eq text (codes "json") || is_yaml text

-- rule: output
abbrev pub is_form : List ℕ → Bool
is_form text = bytes_eq text (codes "lines") || is_json text

-- what a form has to be
-- rules: explain, output
abbrev pub form_words : List ℕ
form_words = codes "--output: want lines, json or yaml\n"

-- ---- one value

-- the text of the value, with no space and in the value's order, and a line's end
-- rule: json
pub record IsJsonLine (d : Data) (text : List ℕ) : Type 0 where
  pub body : List ℕ
  pub are : text ≡ body ++ codes "\n"
  pub ordered : IsInOrder body d
  pub exact : has_float d ≡ false → body ≡ compact_text d
  pub reads_back : depth d ≤ max_depth → read body ≡ Some d
