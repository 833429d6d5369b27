-- The parts of the queue in contracts, and the invariants of their types.
use Rattle.std.specs.Prelude.{◌≡◌, ℕ, Bool, true, false, not, ◌&&◌, ◌==◌, cond, if◌then◌else◌, List, [], ◌∷◌, ◌++◌, map, reverse, Option, Some, None, refl}
use Rattle.std.specs.Ordering.{eq_of_both, on}
use Rattle.std.specs.Cmp.Lexicographic.{pointwise}
use Rattle.std.specs.List.{list_any, filter}
use Rattle.std.specs.Map.{lookup, keys_of as keys_with}
use Rattle.std.specs.FinMap.{FinMap, from_entries, insert, get as get_count}
use Rattle.std.specs.Coded.{Coded, code_by, coded×, coded_ℕ, coded_list}
use Rattle.cj_types.specs.Keys.{Place, place_cmp, coded_place}
use Rattle.cj_queue.specs.declared.stage.Stage.{Stage}
use Rattle.cj_queue.specs.declared.stage.Stage.TheVariants.{Held, Again}
use Rattle.cj_queue.specs.Queue.{Keys, Row, row_code}

-- whether two keys have the same bytes, as a key's `==` says
abbrev pub key_eq : Place → Place → Bool
key_eq = eq_of_both (on (λ k. k.namespace) (pointwise ◌==◌)) (on (λ k. k.name) (pointwise ◌==◌))

abbrev pub stands_in : List Place → Place → Bool
stands_in ks k = list_any (key_eq k) ks

-- no key is in the list more than once
abbrev pub are_distinct : List Place → Bool
are_distinct [] = true
are_distinct (k ∷ ks) = not (stands_in ks k) && are_distinct ks

-- the list as a set
abbrev pub keys_of : List Place → Keys
keys_of ks = from_entries (map (λ k. (k, tt)) ks)

-- ---- the line

-- the keys of the two sets that hold a line: the older ones from the last to the first, then the
-- others
abbrev pub line_of : List Place → List Place → List Place
line_of front back = reverse front ++ back

-- the line after an add of the key: it goes last, unless it is in the line
-- rule: queue-add
abbrev pub with_last : List Place → Place → List Place
with_last line k = if stands_in line k then line else line ++ k ∷ []

-- `Line` in contracts: the keys, and for how many adds there is room
pub record Line : Type 0 where
  pub keys : List Place
  pub room : ℕ

abbrev pub line_code : Coded Line
line_code =
    code_by (List Place × ℕ) (coded× (coded_list coded_place) coded_ℕ) (λ l. (l.keys, l.room))
    (λ p. record { keys = p.0; room = p.1 }) (λ _. refl)

-- ---- the keys that are being worked on

-- these keys, each with its stage
abbrev pub Busy : Type 0
Busy = List (Place × Stage)

-- the key's stage, if it is being worked on
abbrev pub stage_of : Busy → Place → Option Stage
stage_of busy k = lookup (key_eq k) busy

-- whether a key of the stage was added again while it was worked on
abbrev pub is_again : Option Stage → Bool
is_again None = false
is_again (Some Held) = false
is_again (Some Again) = true

-- the keys that were added again while they were worked on
-- rule: add-while-held
abbrev pub added_again : Busy → List Place
added_again busy = filter (λ k. is_again (stage_of busy k)) (keys_with busy)

-- new has the given stage at the key, and is else as old
abbrev pub HasStage : Busy → Busy → Place → Option Stage → Type 0
HasStage old new k s = (q : Place) → stage_of new q ≡ cond (key_eq k q) s (stage_of old q)

-- no key of the line is being worked on, and none is in the line more than once
-- rule: queue-line
pub record IsFree (line : List Place) (busy : Busy) : Type 0 where
  pub free : (k : Place) → stands_in line k ≡ true → stage_of busy k ≡ None
  pub once : are_distinct line ≡ true

-- the row of a line and of the keys that are being worked on
abbrev pub row_of : List Place → Busy → Row
row_of line busy = record { line = line; dirty = keys_of (line ++ added_again busy); processing = keys_of (keys_with busy) }

-- `Work` in contracts: the row, and for how many adds there is room
pub record Work : Type 0 where
  pub row : Row
  pub room : ℕ

abbrev pub work_code : Coded Work
work_code =
    code_by (Row × ℕ) (coded× row_code coded_ℕ) (λ w. (w.row, w.room))
    (λ p. record { row = p.0; room = p.1 }) (λ _. refl)

-- no key of the line is being worked on, each key that was added again is, and no key is in the
-- line more than once
pub record IsLined (line again processing : List Place) : Type 0 where
  pub free : (k : Place) → stands_in line k ≡ true → stands_in processing k ≡ false
  pub held : (k : Place) → stands_in again k ≡ true → stands_in processing k ≡ true
  pub once : are_distinct line ≡ true

-- the number of failures in a row of each key
abbrev pub Counts : Type 0
Counts = FinMap place_cmp ℕ

-- if a put at the key turned counts that had `before` there into `now`, then `back` is those counts
abbrev pub IsPutBack : Counts → Counts → Place → Option ℕ → Type 0
IsPutBack now back k before = (counts : Counts) (n : ℕ) → get_count counts k ≡ before
    → now ≡ insert counts k n → back ≡ counts
