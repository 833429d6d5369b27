-- Names of objects: Kubernetes, "Object Names and IDs", which takes its labels from RFC 1123.
use Rattle.std.specs.Prelude.{ℕ, ◌-◌, Bool, ◌&&◌, ◌||◌, ◌==◌, nat_le, nat_lt, List, length, slice_index, Option, Some, None, is_none, if◌then◌else◌}
use Rattle.std.specs.List.{list_all, slice_split}
use Rattle.std.specs.Str.{chars}
use Rattle.cj_base.specs.declared.cause.Cause.{Cause}
use Rattle.cj_base.specs.declared.cause.Cause.TheVariants.{TooLong, Format}

-- `a` to `z`, `0` to `9`
abbrev pub is_letter_or_digit : ℕ → Bool
is_letter_or_digit b = (nat_le 97 b && nat_le b 122) || (nat_le 48 b && nat_le b 57)

-- `a` to `z`, `0` to `9` or `-`
abbrev pub is_label_byte : ℕ → Bool
is_label_byte b = is_letter_or_digit b || b == 45

-- DNS label: one or more of `a` to `z`, `0` to `9` and `-`, beginning and ending with a letter or
-- digit
-- rule: names
unfoldable pub is_label : List ℕ → Bool
is_label bs =
    nat_lt 0 (length bs)
    && is_letter_or_digit (slice_index bs 0)
    && is_letter_or_digit (slice_index bs (length bs - 1))
    && list_all is_label_byte bs

-- DNS subdomain: one or more labels joined by `.`
-- rules: names, active-names
unfoldable pub is_subdomain : List ℕ → Bool
is_subdomain bs = list_all is_label (slice_split (λ b. b == 46) bs)

-- the number of characters, not of bytes
abbrev pub char_len : List ℕ → ℕ
char_len text = length (chars text)

-- the most characters of a name
-- rule: names
abbrev pub longest : ℕ
longest = 63

-- the most characters of a CronJob's name: its Jobs' names add up to 11
-- rule: names
abbrev pub longest_cron : ℕ
longest_cron = 52

-- why a text is refused, by whether it is too long and whether it is well formed: too long comes
-- first
-- rule: name-faults
abbrev pub cause_of : ℕ → (List ℕ → Bool) → List ℕ → Option Cause
cause_of limit is_well_formed text =
    if nat_lt limit (char_len text) then Some TooLong
    else if is_well_formed text then None
    else Some Format

-- why a text is no name of at most `limit` characters
-- rule: name-faults
abbrev pub name_cause : ℕ → List ℕ → Option Cause
name_cause limit text = cause_of limit is_subdomain text

-- the text is a name of an object
abbrev pub is_name : List ℕ → Bool
is_name text = is_none (name_cause longest text)

-- why a text is no namespace
-- rule: name-faults
abbrev pub namespace_cause : List ℕ → Option Cause
namespace_cause text = cause_of longest is_label text
