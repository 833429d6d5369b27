-- The times that are settled: their Job was made, or their gap is listed.
use Rattle.std.specs.Prelude.{◌≡◌, ℕ, Bool, ◌||◌, List}
use Rattle.std.specs.List.{list_any}
use Rattle.std.specs.BTreeSet as set
use Rattle.std.specs.declared.cmp.Ordering.{Ordering}
use Rattle.cj_history.specs.declared.gaps.gap.Gap.{Gap}
use Rattle.cj_history.specs.declared.gaps.mark.Mark.{Mark}
use Rattle.cj_history.specs.declared.gaps.mark.Start.{Start}
use Rattle.cj_history.specs.contracts.gaps.mark.StartOrd.TheImpl as start
use Rattle.cj_history.specs.gaps.Marks.{has_job}
use Rattle.cj_history.specs.gaps.Whole.{is_gap_of}

-- one of the gaps is of that CronJob and that time
abbrev pub is_listed : List Gap → ℕ → ℕ → Bool
is_listed gs u t = list_any (is_gap_of u t) gs

abbrev pub is_settled : (Mark → Bool) → List Gap → ℕ → ℕ → Bool
is_settled told gs u t = has_job told u t || is_listed gs u t

abbrev pub start_cmp : Start → Start → Ordering
start_cmp = start.ghosts.cmp

-- just the times of the gaps stand in the set
abbrev pub Agrees : List Gap → set.BTreeSet Start → Type 0
Agrees gs times = (s : Start) → set.contains start_cmp times s ≡ is_listed gs s.uid s.time
