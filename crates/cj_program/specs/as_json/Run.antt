-- A run as JSON.
use Rattle.std.specs.Prelude.{◌≡◌, ℕ, List, codes}
use mathlib.Core.List.{reverse}
use Rattle.serde_json.specs.Data.{Data, object, member, no_members}
use Rattle.cj_answers.specs.as_json.Forms.{IsJsonLine}
use Rattle.cj_history.specs.declared.gaps.gap.Gap.{Gap}
use Rattle.cj_report.specs.timeline.Bars.{bars}
use Rattle.cj_report.specs.timeline.Marks.{marks}
use Rattle.cj_program.specs.as_json.Bars.{bars_data}
use Rattle.cj_program.specs.as_json.Gaps.{gaps_data}
use Rattle.cj_program.specs.as_json.Marks.{marks_data}
use Rattle.cj_program.specs.remarks.Standings.{AreGapsOf}
use Rattle.cj_script.specs.simulation.Spans.{SpanView}
use Rattle.cj_world.specs.Worlds.{WorldLog}
use Rattle.cj_zone.specs.declared.table.ZoneTable.{ZoneTable}

abbrev pub run_object : Data → Data → Data → Data
run_object gaps jobs reasons = object (
    member (codes "gaps") gaps (
    member (codes "jobs") jobs (
    member (codes "reasons") reasons no_members)))

-- the gaps, in their order, and what is late in the end; the Jobs that workers made; and the
-- reasons of syncs: of a run under this clock, and with these zones, that left this history
-- rule: run-json
pub record IsRunData (s : SpanView) (zones : ZoneTable) (w : WorldLog) (d : Data) : Type 0 where
  pub gaps : List Gap
  pub are : AreGapsOf s zones w gaps
  pub is : d ≡ run_object (gaps_data gaps) (bars_data (bars (reverse w.history)))
      (marks_data (marks (reverse w.history)))

-- the value on a line
-- rule: run-json
pub record IsRunJson (s : SpanView) (zones : ZoneTable) (w : WorldLog) (text : List ℕ)
    : Type 0 where
  pub value : Data
  pub is : IsRunData s zones w value
  pub line : IsJsonLine value text
