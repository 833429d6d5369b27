-- The names of zones that may be looked up in a folder: of the characters that names in the tz
-- database have ("Theory and pragmatics of the tz code and data", "Names of timezones"), but
-- without `.`.
use Rattle.std.specs.Prelude.{◌≡◌, ◌≢◌, ℕ, Bool, true, ◌&&◌, ◌||◌, ◌==◌, nat_le, List, [], length, codes}
use Rattle.std.specs.List.{All, list_all, slice_split}

-- `A` to `Z`, `a` to `z`
abbrev pub is_letter : ℕ → Bool
is_letter b = (nat_le 65 b && nat_le b 90) || (nat_le 97 b && nat_le b 122)

-- `0` to `9`
abbrev pub is_digit : ℕ → Bool
is_digit b = nat_le 48 b && nat_le b 57

-- or `_`, `+`, `-`
abbrev pub is_name_byte : ℕ → Bool
is_name_byte b = is_letter b || is_digit b || b == 95 || b == 43 || b == 45

-- one or more of them
abbrev pub is_part : List ℕ → Bool
is_part part = nat_le 1 (length part) && list_all is_name_byte part

-- the parts between slashes
abbrev pub has_parts_alone : List ℕ → Bool
has_parts_alone name = list_all is_part (slice_split (λ b. b == 47) name)

-- 1 to 255 bytes, and such parts alone
-- rule: zoneinfo
abbrev pub is_file_name : List ℕ → Bool
is_file_name name = nat_le 1 (length name) && nat_le (length name) 255 && has_parts_alone name

-- a part of a path leads on into a folder: it isn't empty, and doesn't stand for the folder itself
-- or the one above
pub record LeadsIn (part : List ℕ) : Type 0 where
  pub some : part ≢ []
  pub here : part ≢ codes "."
  pub above : part ≢ codes ".."

-- each part of a name that may be looked up leads on into a folder, so none begins at the root, and
-- none goes up
-- rule: zoneinfo
abbrev pub StayBelow : Type 0
StayBelow = (name : List ℕ) → is_file_name name ≡ true
    → All LeadsIn (slice_split (λ b. b == 47) name)
