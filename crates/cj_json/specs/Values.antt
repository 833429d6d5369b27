-- JSON values of times and texts, for what commands print (RFC 8259).
use Rattle.std.specs.Prelude.{ℕ, List, Option, None, Some}
use Rattle.serde_json.specs.Data.{Data, null, string}
use Rattle.cj_zone.specs.TimeText.{time_text_of}

-- the printed time (RFC 3339, UTC)
abbrev pub time_data : ℕ → Data
time_data t = string (time_text_of t)

-- the value, or null where there is none
abbrev pub time_or_null : Option ℕ → Data
time_or_null None = null
time_or_null (Some t) = time_data t

abbrev pub text_or_null : Option (List ℕ) → Data
text_or_null None = null
text_or_null (Some text) = string text
