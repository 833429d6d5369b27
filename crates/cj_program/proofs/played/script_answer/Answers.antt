-- script_answer: its ensures, of the value of the replay.
use Rattle.std.proofs.Common.{inr, string_bytes}
use Rattle.cj_program.proofs.played.script_answer.Goals as goal

pub returns : goal.returns
returns c = λ given said. inr (record {
  script = c.args.script.now;
  said = said;
  text = string_bytes c.in_ok-text.text;
  value = c.in_ok-text.ensures;
  answer = c.printed.ensures;
})
