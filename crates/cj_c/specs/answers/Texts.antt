-- The text of a JSON value (RFC 8259).
use Rattle.std.specs.Prelude.{◌≡◌, ℕ, List, Some}
use Rattle.serde_json.specs.Data.{Data}
use Rattle.serde_json.specs.Read.{read}
use Rattle.serde_json.specs.Written.{compact_text}

-- just the value's text with no space, in the value's order, which reads back as it
-- rule: library-answers
pub record IsJsonText (d : Data) (text : List ℕ) : Type 0 where
  pub are : text ≡ compact_text d
  pub reads_back : read text ≡ Some d
