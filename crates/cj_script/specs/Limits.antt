-- The limits of a script's world, with their defaults.
use Rattle.std.specs.Prelude.{ℕ, ◌&&◌, nat_le, codes, if◌then◌else◌, Option, Some, None, option_and_then}
use Rattle.serde_json.specs.Data.{Data}
use Rattle.serde_json.specs.Find.{as_number, as_u64}
use Rattle.cj_types.specs.WorldLimits.{Kept, kept, last_history, last_window}
use Rattle.cj_manifest.specs.Members.{present}

-- a number, or this one where it is absent
abbrev pub number_or : ℕ → Option Data → Option ℕ
number_or usual None = Some usual
number_or usual (Some d) = option_and_then as_u64 (as_number d)

-- neither is 0 or above its last
abbrev pub limits_of : ℕ → ℕ → Option Kept
limits_of history window =
    if nat_le 1 history && nat_le history last_history && nat_le 1 window
    && nat_le window last_window then Some (kept history window) else None

-- rule: script
abbrev pub limits_in : Data → Option Kept
limits_in d =
    option_and_then (λ history.
    option_and_then (limits_of history)
    (number_or 1_000 (present (codes "window") d)))
    (number_or 1_048_576 (present (codes "history") d))
