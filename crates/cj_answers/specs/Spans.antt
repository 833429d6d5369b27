-- Lengths of time in units, one behind another, as people write them: 2w, 3600s, 1h30m.
use Rattle.std.specs.Prelude.{ℕ, ◌+◌, ◌-◌, ◌*◌, ◌&&◌, nat_le, List, [], ◌∷◌, Option, None, Some, Bool, true, false, if◌then◌else◌}
use Rattle.cj_answers.specs.Moments.{is_digit, span_end}
use Rattle.cj_answers.specs.declared.spans.Tally.{Tally}

-- at most a billion
abbrev pub is_fit : ℕ → Bool
is_fit n = nat_le n 1_000_000_000

-- a number with one digit more
abbrev pub with_digit : Tally → ℕ → Option Tally
with_digit t digit =
    if is_fit t.count
    then Some (record { sum = t.sum; count = t.count * 10 + digit; is_open = true })
    else None

-- the sum with one part more, behind which no digit stands yet
abbrev pub with_part : ℕ → Option ℕ → Option Tally
with_part sum None = None
with_part sum (Some part) =
    if is_fit sum && is_fit part
    then Some (record { sum = sum + part; count = 0; is_open = false })
    else None

-- the number is of this unit
abbrev pub with_unit : Tally → ℕ → Option Tally
with_unit t unit =
    if t.is_open && is_fit t.count then with_part t.sum (span_end t.count unit []) else None

abbrev pub with_byte : Tally → ℕ → Option Tally
with_byte t b = if is_digit b then with_digit t (b - 48) else with_unit t b

-- a number without its unit is none
abbrev pub total : Tally → Option ℕ
total t = if t.is_open then None else Some t.sum

-- what a text adds to what was read before it
abbrev pub tallied : Option Tally → List ℕ → Option ℕ
tallied None bytes = None
tallied (Some t) [] = total t
tallied (Some t) (b ∷ bs) = tallied (with_byte t b) bs

-- the seconds of a text, as 2w, 3600s or 1h30m
-- rule: upcoming-length
abbrev pub span_of : List ℕ → Option ℕ
span_of [] = None
span_of (b ∷ bs) = tallied (with_byte (record { sum = 0; count = 0; is_open = false }) b) bs
