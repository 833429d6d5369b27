-- What a set of starts gains.
use Rattle.std.specs.Prelude.{◌≡◌, ◌⊎◌, ◌<◌, ℕ, true}
use Rattle.std.specs.BTreeSet.{BTreeSet, contains, btree_set_len, IsOrdered}
use Rattle.cj_upcoming.specs.declared.start.Start.{Start}
use Rattle.cj_upcoming.specs.Starts.{start_cmp}

-- the new set has what the old has and each start that P holds of, and no other
pub record Notes (P : Start → Type 0) (old new : BTreeSet Start) : Type 0 where
  pub found : (s : Start) → contains start_cmp new s ≡ true → (contains start_cmp old s ≡ true)
      ⊎ P s
  pub kept : (s : Start) → contains start_cmp old s ≡ true → contains start_cmp new s ≡ true
  pub noted : (s : Start) → P s → contains start_cmp new s ≡ true

-- the new set has more than that number, each of which the old has or P holds of
pub record Exceeds (most : ℕ) (P : Start → Type 0) (old new : BTreeSet Start) : Type 0 where
  pub found : (s : Start) → contains start_cmp new s ≡ true → (contains start_cmp old s ≡ true)
      ⊎ P s
  pub more : most < btree_set_len new
  pub ordered : IsOrdered start_cmp new
