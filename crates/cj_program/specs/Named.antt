-- The time line of a run, or a part of it.
use Rattle.std.specs.Prelude.{ℕ, List, Bool, true, false}
use Rattle.cj_calls.specs.Rows.{Told}
use Rattle.cj_report.specs.timeline.Lines.{IsTimeline}

-- all of it where neither a namespace nor a CronJob is given; of the lines of a part nothing is
-- said
-- rules: run-named, timeline
abbrev pub IsAskedTimeline : Bool → List Told → List ℕ → Type 0
IsAskedTimeline true entries text = IsTimeline entries text
IsAskedTimeline false entries text = Unit {0}
