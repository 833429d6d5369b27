-- Times of the day, dates and spans as people tell them.
use Rattle.std.specs.Prelude.{ℕ, ◌/◌, ◌%◌, ◌==◌, List, [], ◌++◌, codes, decimal, nat_lt, if◌then◌else◌, ℤ, pos, int_lt, unsigned_abs}
use Rattle.cj_base.specs.declared.civil.Civil.{Civil}

-- in two digits
abbrev pub two : ℕ → List ℕ
two n = if nat_lt n 10 then codes "0" ++ decimal n else decimal n

-- `09:30`
abbrev pub clock : ℕ → ℕ → List ℕ
clock hour minute = two hour ++ (codes ":" ++ two minute)

-- `2024-03-31T02:30`
-- rule: local-text
abbrev pub civil_text : Civil → List ℕ
civil_text c =
    decimal (unsigned_abs c.year)
    ++ (codes "-" ++ (two c.month ++ (codes "-" ++ (two c.day ++ (codes "T"
    ++ clock c.hour c.minute)))))

abbrev pub sign : ℤ → List ℕ
sign offset = if int_lt offset (pos 0) then codes "-" else codes "+"

-- seconds beyond whole minutes, where there are some
abbrev pub odd_seconds : ℕ → List ℕ
odd_seconds n = if n == 0 then [] else codes ":" ++ two n

-- `+01:00`, with seconds where there are some
-- rule: local-text
abbrev pub offset_text : ℤ → List ℕ
offset_text offset =
    let n = unsigned_abs offset in
    sign offset ++ (clock (n / 3_600) (n % 3_600 / 60) ++ odd_seconds (n % 60))

-- `2d`, where there is a day
abbrev pub days_text : ℕ → List ℕ
days_text days = if days == 0 then [] else decimal days ++ codes "d "

-- `1d 02:30` of a number of seconds, with seconds where there are some
-- rule: describe-times
abbrev pub span_text : ℕ → List ℕ
span_text n =
    days_text (n / 86_400) ++ (clock (n % 86_400 / 3_600) (n % 3_600 / 60) ++ odd_seconds (n % 60))
