-- What is said to people of a run: the edits that were refused, that nothing started, the due times
-- that got no Job, the CronJobs that are suspended in the end, and what their clocks do.
use Rattle.std.specs.Prelude.{◌≡◌, ℕ, Bool, true, false, List, [], ◌++◌}
use Rattle.std.specs.FinMap as map
use mathlib.Core.List.{reverse}
use Rattle.cj_status.specs.Order.{in_order}
use Rattle.cj_script.specs.simulation.Spans.{SpanView}
use Rattle.cj_history.specs.declared.gaps.gap.Gap.{Gap}
use Rattle.cj_world.specs.Worlds.{WorldLog, state_in}
use Rattle.cj_zone.specs.declared.table.ZoneTable.{ZoneTable}
use Rattle.cj_program.specs.remarks.Refused.{refused_lines}
use Rattle.cj_program.specs.remarks.Idle.{idle_words}
use Rattle.cj_program.specs.remarks.Gaps.{gap_lines}
use Rattle.cj_program.specs.remarks.Order.{comes_before}
use Rattle.cj_zone.specs.Table.{zones_of}
use Rattle.cj_inspect.specs.Nights.{IsNightText}
use Rattle.cj_inspect.specs.declared.nights.look.Look.TheVariants.{Within}
use Rattle.cj_program.specs.remarks.Standings.{AreGapsOf, IsLast}
use Rattle.cj_program.specs.remarks.Suspended.{suspended_lines}

-- the most gaps of one CronJob and one cause that get a line each
-- rule: explain-gaps
abbrev pub most_lines : ℕ
most_lines = 20

-- with these gaps in order, of which at most that many of a kind get a line each
abbrev pub remark_words : ℕ → SpanView → WorldLog → List Gap → List ℕ
remark_words most s w gaps =
    refused_lines s w.history ++ (idle_words s (reverse w.history) gaps ++ (gap_lines most gaps
    ++ suspended_lines (map.values (state_in w).store.crons)))

-- behind the text stands what the clocks of the CronJobs do, that are there at the end, while the
-- run's clock goes on
-- rule: clock-nights
pub record HasNights (s : SpanView) (zones : ZoneTable) (w : WorldLog) (text words : List ℕ)
    : Type 0 where
  pub last : ℕ
  pub is_last : IsLast s last
  pub nights : List ℕ
  pub are : IsNightText (zones_of zones) (Within s.start last) (map.values (state_in w).store.crons)
      nights
  pub is : words ≡ text ++ nights

-- of a run under this clock, and with these zones, that left this history
-- rules: explain-refused, explain-idle, explain-gaps, explain-suspended, clock-nights
pub record IsRemark (most : ℕ) (s : SpanView) (zones : ZoneTable) (w : WorldLog) (words : List ℕ)
    : Type 0 where
  pub gaps : List Gap
  pub are : AreGapsOf s zones w gaps
  pub said : HasNights s zones w (remark_words most s w (in_order comes_before gaps)) words

-- where people ask for it
abbrev pub IsAskedRemark : Bool → ℕ → SpanView → ZoneTable → WorldLog → List ℕ → Type 0
IsAskedRemark true most s zones w words = IsRemark most s zones w words
IsAskedRemark false most s zones w words = words ≡ []
