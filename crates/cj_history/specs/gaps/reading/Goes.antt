-- How far the reading of a history has come.
use Rattle.std.specs.Prelude.{Bool, List}
use Rattle.cj_calls.specs.Rows.{Told}
use Rattle.cj_history.specs.declared.gaps.gap.Gap.{Gap}
use Rattle.cj_history.specs.declared.gaps.mark.Mark.{Mark}
use Rattle.cj_history.specs.declared.gaps.intervals.Intervals.{Intervals}
use Rattle.cj_history.specs.gaps.reading.Listed.{AreListed}
use Rattle.cj_history.specs.gaps.reading.Settled.{is_settled}
use Rattle.cj_history.specs.gaps.reading.Intervals.{Covers}

-- the gaps of these entries are listed, and the intervals that were looked at are settled
pub record Goes (told : Mark → Bool) (h : List Told) (l : Intervals) (gs : List Gap) : Type 0 where
  pub covers : Covers (is_settled told gs) l
  pub gaps : AreListed told h gs
