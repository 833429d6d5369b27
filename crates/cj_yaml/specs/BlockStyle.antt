-- A value in block style (YAML 1.2.2, chapter 8), as one document.
use Rattle.std.specs.Prelude.{◌≡◌, ◌-◌, ◌+◌, ℕ, List, [], ◌∷◌, ◌++◌, length}
use Rattle.std.specs.Prelude.{Bool, true, false, cond, nat_le, not, ◌&&◌, ◌||◌, ◌==◌, slice_index, Some, is_some, codes}
use Rattle.std.specs.List.{repeat}
use Rattle.json.specs.Lex.{tokens}
use Rattle.json.specs.Print.{print}
use Rattle.serde_json.specs.Data.{Data, null, boolean, number, string, array, object, Items, no_items, item, Members, no_members, member}
use Rattle.serde_json.specs.Find.{as_str}
use Rattle.serde_json.specs.Read.{read}
use Rattle.cj_yaml.specs.Words.{IsPrinted}

-- the indentation of a line: so many spaces (6.1)
abbrev pub indent : ℕ → List ℕ
indent n = repeat n (32 ∷ [])

-- the front of an entry: it is indented, unless it stands behind the `- ` of an item (8.2.1)
abbrev pub front : ℕ → Bool → List ℕ
front n compact = cond compact [] (indent n)

-- ---- literal texts (8.1)

-- it may stand behind another byte of a literal text: it is a character of ASCII that is printed,
-- or a line break with no space before it
abbrev pub may_be_in_line : ℕ → ℕ → Bool
may_be_in_line before b =
    ((b == 10) || (nat_le 32 b && nat_le b 126)) && not ((b == 10) && (before == 32))

-- behind a byte: each one may stand there, no space ends them, and there is a line break
abbrev pub are_shown_lines : ℕ → Bool → List ℕ → Bool
are_shown_lines before lines [] = lines && not (before == 32)
are_shown_lines before lines (b ∷ rest) =
    may_be_in_line before b && are_shown_lines b (lines || (b == 10)) rest

-- a text that may be literal: it has several lines, no space and no line break begins it, no line
-- ends in a space, and each byte is a character of ASCII that is printed
-- rule: yaml-block
abbrev pub may_be_literal : List ℕ → Bool
may_be_literal t =
    not (slice_index t 0 == 32) && not (slice_index t 0 == 10) && are_shown_lines 10 false t

-- how a literal text begins: `|+` keeps the line breaks at its end, `|` has one, `|-` none
-- (8.1.1.2)
abbrev pub literal_head : List ℕ → List ℕ
literal_head t =
    cond (slice_index t (length t - 1) == 10)
    (cond (slice_index t (length t - 2) == 10) (codes "|+\n") (codes "|\n"))
    (codes "|-\n")

-- its lines, each indented that isn't empty, from a place on; whether a line begins there
abbrev pub literal_lines : ℕ → Bool → List ℕ → List ℕ
literal_lines n fresh [] = cond fresh [] (10 ∷ [])
literal_lines n fresh (b ∷ rest) =
    cond (fresh && not (b == 10)) (indent n) [] ++ b ∷ literal_lines n (b == 10) rest

abbrev pub literal_text : ℕ → List ℕ → List ℕ
literal_text n t = literal_head t ++ literal_lines n true t

-- ---- values

-- a value that block style has no lines for: null, a boolean, a number, and a list or a mapping
-- with nothing in it
-- rule: yaml-block
abbrev pub is_flow : Data → Bool
is_flow null = true
is_flow (boolean b) = true
is_flow (number n) = true
is_flow (string s) = false
is_flow (array no_items) = true
is_flow (array (item d ds)) = false
is_flow (object no_members) = true
is_flow (object (member k d ms)) = false

-- a value that is no block collection: a text, or what has no lines
abbrev pub is_leaf : Data → Bool
is_leaf d = is_flow d || is_some (as_str d)

-- JSON of a value, with no blank in it
pub record IsJson (d : Data) (printed : List ℕ) : Type 0 where
  pub value : read printed ≡ Some d
  pub compact : printed ≡ print (tokens printed)

-- what stands on its line, to the line's end, or in lines at a column: a text, or in flow style, as
-- JSON has it, what has no lines (7.4)
-- rule: yaml-block
pub data IsLeaf : ℕ → Data → List ℕ → Type 0 where
  text : {n : ℕ} {t : List ℕ} (printed : List ℕ) → IsPrinted t printed
      → IsLeaf n (string t) (printed ++ 10 ∷ [])
  literal : {n : ℕ} {t : List ℕ} → may_be_literal t ≡ true → IsLeaf n (string t) (literal_text n t)
  flow : {n : ℕ} {d : Data} (printed : List ℕ) → is_flow d ≡ true → IsJson d printed
      → IsLeaf n d (printed ++ 10 ∷ [])

-- what stands behind the `:` of a key at a column: a mapping further in, a list there (8.2.2)
-- rule: yaml-block
mutual
  pub data IsMember : ℕ → Data → List ℕ → Type 0 where
    mapping : {n : ℕ} {k : List ℕ} {d : Data} {ms : Members} {t : List ℕ}
        → IsMapping (n + 2) false (member k d ms) t → IsMember n (object (member k d ms)) (10 ∷ t)
    list : {n : ℕ} {d : Data} {ds : Items} {t : List ℕ}
        → IsList n false (item d ds) t → IsMember n (array (item d ds)) (10 ∷ t)
    leaf : {n : ℕ} {d : Data} {t : List ℕ} → IsLeaf (n + 2) d t → IsMember n d (32 ∷ t)

  -- what stands behind the `- ` of an item, at a column
  pub data IsItem : ℕ → Data → List ℕ → Type 0 where
    mapping_in : {n : ℕ} {k : List ℕ} {d : Data} {ms : Members} {t : List ℕ}
        → IsMapping n true (member k d ms) t → IsItem n (object (member k d ms)) t
    list_in : {n : ℕ} {d : Data} {ds : Items} {t : List ℕ}
        → IsList n true (item d ds) t → IsItem n (array (item d ds)) t
    leaf_in : {n : ℕ} {d : Data} {t : List ℕ} → IsLeaf n d t → IsItem n d t

  -- a key and its value
  pub data IsEntry : ℕ → Bool → List ℕ → Data → List ℕ → Type 0 where
    entry : {n : ℕ} {compact : Bool} {k : List ℕ} {d : Data} (key t : List ℕ) → IsPrinted k key
        → IsMember n d t → IsEntry n compact k d (front n compact ++ (key ++ 58 ∷ t))

  -- the members of a mapping in the order of their keys, all at one column
  pub data IsMapping : ℕ → Bool → Members → List ℕ → Type 0 where
    no_more : {n : ℕ} {compact : Bool} → IsMapping n compact no_members []
    more : {n : ℕ} {compact : Bool} {k : List ℕ} {d : Data} {ms : Members} (t rest : List ℕ)
        → IsEntry n compact k d t → IsMapping n false ms rest
        → IsMapping n compact (member k d ms) (t ++ rest)

  -- the items of a list in their order, all at one column
  pub data IsList : ℕ → Bool → Items → List ℕ → Type 0 where
    ended : {n : ℕ} {compact : Bool} → IsList n compact no_items []
    further : {n : ℕ} {compact : Bool} {d : Data} {ds : Items} (t rest : List ℕ)
        → IsItem (n + 2) d t → IsList n false ds rest
        → IsList n compact (item d ds) ((front n compact ++ 45 ∷ 32 ∷ t) ++ rest)

-- a document: a mapping or a list at the first column, or what stands on its line or in lines
-- rule: yaml-block
pub data IsBlock : Data → List ℕ → Type 0 where
  of_mapping : {k : List ℕ} {d : Data} {ms : Members} {t : List ℕ}
      → IsMapping 0 false (member k d ms) t → IsBlock (object (member k d ms)) t
  of_list : {d : Data} {ds : Items} {t : List ℕ}
      → IsList 0 false (item d ds) t → IsBlock (array (item d ds)) t
  of_leaf : {d : Data} {t : List ℕ} → IsLeaf 2 d t → IsBlock d t

-- a text has grown by one that is so
pub record GrowsBy (Is : List ℕ → Type 0) (old new : List ℕ) : Type 0 where
  pub part : List ℕ
  pub grows : new ≡ old ++ part
  pub is : Is part
