-- line_values, its loop: the lines that were cut stand there, and behind them comes the rest.
use denote.Shadow.{shadow}
use denote.Text.{Utf8}
use Rattle.std.proofs.Common.{length, map}
use Rattle.serde_json.specs.View.{view}
use Rattle.cj_program.specs.as_json.Replay.{HasLines}
use Rattle.cj_program.proofs.as_json.replay.line_values.Given as goal

abbrev pub invariant-loop-line : goal.invariant-loop-line
invariant-loop-line l = HasLines l.text l.rest (map view l.values.items) × shadow (Utf8 l.rest)

abbrev pub decreases-loop-line : goal.decreases-loop-line
decreases-loop-line l = length l.rest
