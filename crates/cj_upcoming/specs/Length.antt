-- How long a window is, as the words of a command say it.
use Rattle.std.specs.Prelude.{ℕ, ◌+◌, ◌-◌, ◌*◌, ◌==◌, ◌&&◌, nat_lt, List, [], ◌∷◌, reverse, length, Option, Some, None, if◌then◌else◌}
use Rattle.std.specs.Char.{is_ascii_digit}

-- the number below ten million that decimal digits spell, behind a number that was read before them
abbrev pub number_of : ℕ → List ℕ → Option ℕ
number_of n [] = Some n
number_of n (b ∷ bs) =
    if is_ascii_digit b && nat_lt n 1_000_000 then number_of (n * 10 + (b - 48)) bs else None

-- the seconds of a minute, `m`, an hour, `h`, and a day, `d`
-- rule: upcoming-length
abbrev pub unit_seconds : ℕ → Option ℕ
unit_seconds b =
    if b == 109 then Some 60 else (if b == 104 then Some 3_600 else
    (if b == 100 then Some 86_400 else None))

abbrev pub times : Option ℕ → Option ℕ → Option ℕ
times (Some n) (Some m) = Some (n * m)
times (Some n) None = None
times None m = None

-- a number of a unit
abbrev pub measure : List ℕ → ℕ → Option ℕ
measure digits unit =
    if length digits == 0 then None else times (number_of 0 digits) (unit_seconds unit)

-- of a text, read from its end
abbrev pub length_by : List ℕ → Option ℕ
length_by [] = None
length_by (unit ∷ digits) = measure (reverse digits) unit

-- how many seconds a text means, as `90m`, `24h` or `7d`
-- rule: upcoming-length
abbrev pub length_of : List ℕ → Option ℕ
length_of text = length_by (reverse text)
