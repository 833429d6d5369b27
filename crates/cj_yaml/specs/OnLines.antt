-- Texts where they stand on a line (YAML 1.2.2, 5.4, 5.5 and 7.3.3).
use Rattle.std.specs.Prelude.{ℕ, ◌≡◌, List, ◌++◌, Bool, true, ◌&&◌, ◌||◌, ◌==◌, drop, slice_index}
use Rattle.cj_yaml.specs.Words.{is_plain_line}

-- a space or a tab
abbrev pub is_blank : ℕ → Bool
is_blank b = (b == 32) || (b == 9)

-- a line break, or the end
abbrev pub is_break : ℕ → Bool
is_break b = (b == 10) || (b == 13) || (b == 0)

abbrev pub is_gap : ℕ → Bool
is_gap b = is_blank b || is_break b

abbrev pub is_quote : ℕ → Bool
is_quote b = (b == 34) || (b == 39)

-- a plain text ends at this byte, before the next one: at a line break, at a `:` before a gap, or
-- at a `#` behind a blank
abbrev pub stops_plain : ℕ → ℕ → Bool → Bool
stops_plain b next blank =
    (b == 10) || (b == 13) || ((b == 58) && is_gap next) || ((b == 35) && blank)

-- what ends a plain text behind it: the line's end, or a `:` before a space or a line's end
abbrev pub ends_plain : List ℕ → Bool
ends_plain rest =
    (slice_index rest 0 == 10) || ((slice_index rest 0 == 58) && is_gap (slice_index rest 1))

-- at an offset of the text a plain text stands as it is printed, and this behind it
-- rule: yaml-reads-back
pub record StandsPlain (text : List ℕ) (at : ℕ) (t rest : List ℕ) : Type 0 where
  pub there : drop at text ≡ t ++ rest
  pub plain : is_plain_line t ≡ true
  pub ends : ends_plain rest ≡ true
