-- Labels and annotations: a finite map from text to text, kept as its entries in the order of the
-- names' bytes.
use Rattle.std.specs.Prelude.{ℕ, Bool, List, Option}
use Rattle.std.specs.declared.cmp.Ordering.{Ordering}
use Rattle.std.specs.Ordering.{nat_cmp}
use Rattle.std.specs.Cmp.Lexicographic.{slice_cmp}
use Rattle.std.specs.FinMap.{find, put, is_sorted}

-- by the bytes of two texts
abbrev pub text_cmp : List ℕ → List ℕ → Ordering
text_cmp = slice_cmp nat_cmp

-- the entries with this value at the name, replacing any earlier one
abbrev pub put_label : List ℕ → List ℕ → List (List ℕ × List ℕ) → List (List ℕ × List ℕ)
put_label name value labels = put text_cmp name value labels

-- the value at the name
abbrev pub label_of : List ℕ → List (List ℕ × List ℕ) → Option (List ℕ)
label_of name labels = find text_cmp name labels

-- the names strictly rise
abbrev pub is_label_map : List (List ℕ × List ℕ) → Bool
is_label_map labels = is_sorted text_cmp labels
