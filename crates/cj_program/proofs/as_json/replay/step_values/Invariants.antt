-- step_values, its loop over the steps: the lines of those gone through are taken, and their values stand there.
use denote.Shadow.{shadow}
use denote.Text.{Utf8}
use Rattle.std.proofs.Common.{map, take}
use Rattle.serde_json.specs.View.{view}
use Rattle.cj_program.specs.as_json.Replay.{AreSteps}
use Rattle.cj_program.proofs.as_json.replay.step_values.Given as goal

abbrev pub invariant-loop-step : goal.invariant-loop-step
invariant-loop-step l =
    AreSteps (take l.step-index l.steps) l.text l.rest (map view l.values.items) × shadow (Utf8 l.rest)
