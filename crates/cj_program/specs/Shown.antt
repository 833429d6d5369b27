-- What is printed of a run.
use Rattle.std.specs.Prelude.{◌≡◌, ℕ, Bool, true, false, List, option_map}
use mathlib.Core.List.{reverse}
use Rattle.cj_calls.specs.Rows.{Told}
use Rattle.cj_args.specs.declared.request.RunRequest.{RunRequest}
use Rattle.cj_report.specs.history.Entries.{history_lines}
use Rattle.cj_inspect.specs.Narrowing.{is_everything}
use Rattle.cj_answers.specs.as_json.Forms.{is_json}
use Rattle.cj_program.specs.Named.{IsAskedTimeline}
use Rattle.cj_program.specs.as_json.Run.{IsRunJson}
use Rattle.cj_script.specs.simulation.Spans.{SpanView}
use Rattle.cj_world.specs.Worlds.{WorldLog}
use Rattle.cj_zone.specs.declared.table.ZoneTable.{ZoneTable}

-- the time line, the entries, the picture, one JSON value or the report: the first that is asked
-- for, of a history whose oldest entry comes first. Of the picture nothing is said
-- rules: run-json, run-named, run-shown
abbrev pub IsShownOf : Bool → Bool → Bool → Bool → (List ℕ → Type 0) → (List ℕ → Type 0)
    → List Told → List ℕ → List ℕ → Type 0
IsShownOf true history svg json Timeline Json entries report text = Timeline text
IsShownOf false true svg json Timeline Json entries report text = text ≡ history_lines entries
IsShownOf false false true json Timeline Json entries report text = Unit {0}
IsShownOf false false false true Timeline Json entries report text = Json text
IsShownOf false false false false Timeline Json entries report text = text ≡ report

-- of a run under this clock, and with these zones, that left this history
abbrev pub IsShown : RunRequest → SpanView → ZoneTable → WorldLog → List ℕ → List ℕ → Type 0
IsShown r s zones w report text = IsShownOf r.timeline r.history r.svg (is_json r.output.now)
    (IsAskedTimeline (is_everything (option_map (λ s. s.now) r.namespace) r.crons.items)
    (reverse w.history))
    (IsRunJson s zones w) (reverse w.history) report text
