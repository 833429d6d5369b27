-- replay_value: its ensures, from the values of the steps and of the lines.
use Rattle.std.proofs.Common.{map, subst}
use Rattle.serde_json.specs.View.{view}
use Rattle.cj_program.specs.as_json.Replay.{AreSteps}
use Rattle.cj_program.proofs.Playback.{both_members}
use Rattle.cj_program.proofs.as_json.replay.replay_value.Goals as goal

pub returns : goal.returns
returns c =
    let values = map view c.in_ok-taken.taken.values.items in
    let rest = c.in_ok-taken.taken.rest.now in
    record {
      steps = values;
      report = map view c.in_ok-lines.lines.items;
      rest = rest;
      are_steps = subst (λ ss. AreSteps ss c.args.text.now rest values) c.as_slice.ensures.value c.in_ok-taken.ensures;
      are_lines = c.in_ok-lines.ensures;
      is = both_members _ _ _ _ _ c.in_ok-replay_object.ensures c.list.ensures c.list-2.ensures;
    }
