-- step_values: its loop, with one step more.
use Rattle.std.proofs.Common.{map, rules}
use Rattle.serde_json.specs.View.{view}
use Rattle.cj_program.proofs.Playback.{no_steps, step_more}
use Rattle.cj_program.proofs.as_json.replay.step_values.Goals as goal

pub loop-step-init : goal.loop-step-init
loop-step-init c = (no_steps c.args.text.now (map view c.new-values.result.items) (search rules), search rules)

pub loop-step-preserved : goal.loop-step-preserved
loop-step-preserved c = (
  step_more c.args.steps.now c.loop-step.step-index c.step-item.result c.loop-step-test.true c.step-item.is
      c.as_str.result.now (search rules) c.args.text.now c.loop-step.rest.now _ _ _ c.loop-step.invariant.0
      c.in_ok-rest.ensures,
  search rules,
)
