-- Times in a script: texts that are printed instants up to the end of 9998 (RFC 3339).
use Rattle.std.specs.Prelude.{ℕ, zero, suc, List, bytes_eq, if◌then◌else◌, Option, Some, None, option_and_then}
use Rattle.serde_json.specs.Data.{Data}
use Rattle.serde_json.specs.Find.{as_str}
use Rattle.cj_base.specs.Instant.{last_second}
use Rattle.cj_zone.specs.TimeText.{time_text_of}

-- the instant that is printed so, of those up to n
unfoldable pub printed_by : ℕ → List ℕ → Option ℕ
printed_by zero text = if bytes_eq text (time_text_of 0) then Some 0 else None
printed_by (suc n) text = if bytes_eq text (time_text_of (suc n)) then Some (suc n) else printed_by
    n text

-- the instant that is printed so
-- rule: step-form
unfoldable pub instant_of : List ℕ → Option ℕ
instant_of text = printed_by last_second text

-- a time that must be there
abbrev pub time_in : Option Data → Option ℕ
time_in o = option_and_then instant_of (option_and_then as_str o)
