-- push_step: its ensures, of the line that was cut.
use Rattle.std.proofs.Common.{refl}
use Rattle.cj_program.specs.as_json.Replay.{texts_of}
use Rattle.cj_program.proofs.Playback.{added_one}
use Rattle.cj_program.proofs.as_json.replay.push_step.Goals as goal

pub returns : goal.returns
returns c = record {
  texts = texts_of c.in-Some.line c.args.who.now;
  caller = refl;
  are = c.in-Some.ensures;
  added = added_one _ _ c.in_ok-value.value _ c.in_ok-push_value.ensures.ok c.in_ok-value.ensures;
}
