-- Texts in double quotes in which characters that aren't printed have their codes (YAML 1.2.2, 5.1
-- and 5.7).
use Rattle.std.specs.Prelude.{ℕ, ◌/◌, ◌%◌, List, [], ◌∷◌, ◌++◌, Bool, cond, ◌||◌, ◌&&◌, ◌==◌, nat_le, nat_lt}
use Rattle.std.specs.Prelude.{flat_map, chars, encode_utf8}
use Rattle.std.specs.Char.{digit_char}

-- the hexadecimal digit of a number's last four bits
abbrev pub hex_digit : ℕ → List ℕ
hex_digit n = encode_utf8 (digit_char (n % 16))

-- the escape of a character by its code of four digits (ns-esc-16-bit)
abbrev pub code_escape : ℕ → List ℕ
code_escape c =
    (92 ∷ 117 ∷ []) ++ hex_digit (c / 4096) ++ hex_digit (c / 256) ++ hex_digit (c / 16)
    ++ hex_digit c

-- a character that isn't printed, or that readers of YAML 1.1 take for a line break: a control
-- character, U+2028, U+2029, U+FEFF, U+FFFE and U+FFFF
abbrev pub is_coded : ℕ → Bool
is_coded c =
    nat_lt c 32 || (nat_le 127 c && nat_le c 159) || (c == 8232) || (c == 8233) || (c == 65279)
    || (c == 65534) || (c == 65535)

-- a character as it stands in double quotes
abbrev pub coded_char : ℕ → List ℕ
coded_char c =
    cond (c == 34) (92 ∷ 34 ∷ [])
    (cond (c == 92) (92 ∷ 92 ∷ [])
    (cond (is_coded c) (code_escape c) (encode_utf8 c)))

-- the text in double quotes
-- rule: yaml-printed
abbrev pub coded_text : List ℕ → List ℕ
coded_text t = (34 ∷ []) ++ flat_map coded_char (chars t) ++ (34 ∷ [])
