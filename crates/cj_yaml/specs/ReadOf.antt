-- What bytes are read as.
use Rattle.std.specs.Prelude.{◌≡◌, ℕ, List, [], ◌∷◌, map, Some, IsUtf8}
use Rattle.serde_json.specs.Data.{Data}
use Rattle.serde_json.specs.Read as json
use Rattle.serde_json.specs.View.{view}
use Rattle.cj_yaml.specs.declared.document.Document.{Document}

-- the values of documents, in the order of the stream
abbrev pub values : List Document → List Data
values documents = map (λ d. view d.value) documents

-- What bytes are read as: UTF-8 is read, and a JSON text is one document with the value that JSON
-- gives it.
-- rule: yaml-json
pub record IsReadOf (bytes : List ℕ) (found : List Data) : Type 0 where
  pub text : IsUtf8 bytes
  pub one : (d : Data) → json.read bytes ≡ Some d → found ≡ d ∷ []
