-- What is known of a history once it was read from its oldest entry on.
use Rattle.std.specs.Prelude.{◌≡◌, ℕ, ◌==◌, Bool, ◌||◌, List, Option, if◌then◌else◌, None}
use Rattle.std.specs.Ordering.{nat_cmp}
use Rattle.std.specs.BTreeMap as tree
use Rattle.std.specs.BTreeSet as set
use Rattle.std.specs.declared.cmp.Ordering.{Ordering}
use Rattle.cj_calls.specs.Rows.{Told}
use Rattle.cj_history.specs.declared.gaps.mark.Start.{Start}
use Rattle.cj_history.specs.declared.gaps.mark.Mark.{Mark}
use Rattle.cj_history.specs.declared.gaps.marks.Marks.{Marks}
use Rattle.cj_history.specs.contracts.gaps.mark.MarkOrd.TheImpl as mark
use Rattle.cj_history.specs.gaps.Marks.{newer, says, last_claimed, is_told}

abbrev pub mark_cmp : Mark → Mark → Ordering
mark_cmp = mark.ghosts.cmp

-- the last claim of the worker with this number
abbrev pub claim_by : tree.BTreeMap ℕ Start → ℕ → Option Start
claim_by claims number = tree.get nat_cmp claims number

abbrev pub has_in : set.BTreeSet Mark → Mark → Bool
has_in marks m = set.contains mark_cmp marks m

-- it was told
abbrev pub has : Marks → Mark → Bool
has t m = has_in t.marks m

-- the worker has that claim, if it is one, and the others keep theirs
abbrev pub Claims : ℕ → Option Start → tree.BTreeMap ℕ Start → tree.BTreeMap ℕ Start → Type 0
Claims number start before after = (other : ℕ)
    → claim_by after other ≡ newer (if number == other then start else None) (claim_by before other)

-- that is told, if it is anything
abbrev pub Tells : Option Mark → set.BTreeSet Mark → set.BTreeSet Mark → Type 0
Tells told before after = (m : Mark) → has_in after m ≡ (says told m || has_in before m)

-- what is known is what the history says
pub record Knows (t : Marks) (h : List Told) : Type 0 where
  pub claims : (number : ℕ) → claim_by t.claims number ≡ last_claimed h number
  pub told : (m : Mark) → has t m ≡ is_told h m
