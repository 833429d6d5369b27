-- Each call keeps the line stingy: client-go, package workqueue, "Stingy: a single item will not be
-- processed multiple times concurrently, and if an item is added multiple times before it can be
-- processed, it will only be processed once".
use Rattle.std.specs.Prelude.{◌≡◌, ◌⊎◌, true, false, List, [], ◌∷◌}
use Rattle.cj_types.specs.Keys.{Place}
use Rattle.cj_queue.specs.Queue.{Row, has, new_row, row_add, row_adds, row_take, row_end}

-- the key is in the list
abbrev pub IsIn : Place → List Place → Type 0
IsIn k [] = ⊥
IsIn k (x ∷ ks) = (x ≡ k) ⊎ IsIn k ks

-- no key is in the list more than once
abbrev pub AreOnce : List Place → Type 0
AreOnce [] = Unit {0}
AreOnce (k ∷ ks) = (IsIn k ks → ⊥) × AreOnce ks

-- a key of the line is in it once, is dirty and is not being worked on; and a dirty key is in the
-- line, unless it is being worked on
-- rule: queue-line
pub record IsStingy (r : Row) : Type 0 where
  pub once : AreOnce r.line
  pub wanted : (k : Place) → IsIn k r.line → has r.dirty k ≡ true
  pub free : (k : Place) → IsIn k r.line → has r.processing k ≡ false
  pub listed : (k : Place) → has r.dirty k ≡ true → has r.processing k ≡ false → IsIn k r.line

-- a new line is stingy, and each call keeps it so; the work that ends must be on a key that is
-- being worked on. Adds leave the keys that are being worked on unchanged
-- rule: queue-line
pub record RowsStayStingy : Type 0 where
  pub new : IsStingy new_row
  pub add : (r : Row) (k : Place) → IsStingy r → IsStingy (row_add r k)
  pub adds : (r : Row) (ks : List Place) → IsStingy r → IsStingy (row_adds r ks)
  pub take : (r : Row) → IsStingy r → IsStingy (row_take r)
  pub end : (r : Row) (k : Place) → has r.processing k ≡ true → IsStingy r → IsStingy (row_end r k)
  pub same : (r : Row) (ks : List Place) → (row_adds r ks).processing ≡ r.processing
