-- Places in a text: the line and the column of a byte.
use Rattle.std.specs.Prelude.{ℕ, zero, suc, ◌+◌, ◌-◌, ◌^◌, ◌==◌, ◌&&◌, ◌||◌, ◌≡◌, ◌≤◌, not}
use Rattle.std.specs.Prelude.{List, Bool, cond, min, length, slice_index, bit_and}
use Rattle.cj_yaml.specs.declared.place.Place.{Place}

-- whether a line ends with the byte at an offset: a line feed, or a carriage return with none
-- behind it (YAML 1.2.2, 5.4)
abbrev pub ends_line : List ℕ → ℕ → Bool
ends_line text at =
    (slice_index text at == 10)
    || ((slice_index text at == 13) && not (slice_index text (at + 1) == 10))

-- a count and one more, up to the greatest number
abbrev pub more : ℕ → ℕ
more n = min (n + 1) (2 ^ 64 - 1)

-- the place behind the byte at an offset, which is at this place; a character of several bytes has
-- one column
abbrev pub behind : List ℕ → ℕ → Place → Place
behind text at p =
    cond (ends_line text at) (record { line = more p.line; column = 1 })
    (cond (bit_and (slice_index text at) 192 == 128) p
    (record { line = p.line; column = more p.column }))

-- the place behind so many bytes from an offset on, the first of which is at this place
abbrev pub place_after : List ℕ → ℕ → ℕ → Place → Place
place_after text from zero p = p
place_after text from (suc n) p = behind text (from + n) (place_after text from n p)

-- how many bytes the byte order mark in front of a text has (5.2)
abbrev pub mark_len : List ℕ → ℕ
mark_len text =
    cond ((slice_index text 0 == 239) && (slice_index text 1 == 187)
    && (slice_index text 2 == 191)) 3 0

-- where a text begins
abbrev pub start : Place
start = record { line = 1; column = 1 }

-- the place of the byte at an offset: the line and the column in characters, both from 1
-- rule: yaml-place
abbrev pub place_at : List ℕ → ℕ → Place
place_at text at = place_after text (mark_len text) (at - mark_len text) start

-- a place lies in a text: it is that of a byte, or of the end
-- rule: yaml-place
abbrev pub IsPlaceIn : List ℕ → Place → Type 0
IsPlaceIn text p = (at : ℕ) × (at ≤ length text) × (p ≡ place_at text at)
