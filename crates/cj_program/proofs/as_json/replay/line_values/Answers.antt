-- line_values: its loop, with one line more, and its ensures after the last.
use Rattle.std.proofs.Common.{map, rules}
use Rattle.serde_json.specs.View.{view}
use Rattle.cj_program.proofs.Playback.{line_more, no_lines}
use Rattle.cj_program.proofs.as_json.replay.line_values.Goals as goal

pub loop-line-init : goal.loop-line-init
loop-line-init c = (no_lines c.args.text.now (map view c.new-values.result.items) (search rules), search rules)

pub loop-line-preserved : goal.loop-line-preserved
loop-line-preserved c = (
  line_more c.args.text.now c.loop-line.rest.now _ _ _ _ c.loop-line.invariant.0 c.in-Some.ensures.parts
      c.in_ok-push_line.ensures,
  search rules,
)
