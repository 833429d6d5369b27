-- Where the first number with a fraction is in a value, or one that neither 64 bits with a sign nor
-- 64 without can hold.
use Rattle.std.specs.Prelude.{ℕ, List, [], ◌++◌, codes, if◌then◌else◌}
use Rattle.serde_json.specs.Data.{Data, null, boolean, number, string, array, object, Items, no_items, item, Members, no_members, member}
use Rattle.serde_json.specs.Written.{has_float}

abbrev pub member_step : List ℕ → List ℕ
member_step key = codes "." ++ key

-- into the first part that has one
abbrev mutual
  pub fraction_path : Data → List ℕ
  fraction_path null = []
  fraction_path (boolean b) = []
  fraction_path (number n) = []
  fraction_path (string s) = []
  fraction_path (array ds) = items_path ds
  fraction_path (object ms) = members_path ms

  pub items_path : Items → List ℕ
  items_path no_items = []
  items_path (item d ds) = if has_float d then codes "[]" ++ fraction_path d else items_path ds

  pub members_path : Members → List ℕ
  members_path no_members = []
  members_path (member k d ms) = if has_float d then member_step k
      ++ fraction_path d else members_path ms

-- rule: explain-fraction
abbrev pub fraction_words : Data → List ℕ
fraction_words d =
    if has_float d then codes "$" ++ (fraction_path d
    ++ codes ": a number with a fraction, or of more than 64 bits\n") else []
