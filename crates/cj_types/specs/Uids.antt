-- Texts of uids and resource versions.
use Rattle.std.specs.Prelude.{ℕ, zero, suc, ◌+◌, ◌/◌, ◌%◌, ◌^◌, nat_lt, if◌then◌else◌, List, [], ◌∷◌, ◌++◌, codes}

-- the most objects that are ever created
abbrev pub last_uid : ℕ
last_uid = 2 ^ 40

-- `0` to `9`, `a` to `f`
abbrev pub hex_digit : ℕ → ℕ
hex_digit d = if nat_lt d 10 then 48 + d else 87 + d

-- the last k hexadecimal digits of n
unfoldable pub hex_digits : ℕ → ℕ → List ℕ
hex_digits zero n = []
hex_digits (suc k) n = hex_digits k (n / 16) ++ hex_digit (n % 16) ∷ []

-- `00000000-0000-0000-0000-` and twelve lower-case hexadecimal digits
-- rule: uid-text
abbrev pub uid_text : ℕ → List ℕ
uid_text n = codes "00000000-0000-0000-0000-" ++ hex_digits 12 n
