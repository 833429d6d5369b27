-- fault_words: its clause, by the place and the cause of the fault.
use Rattle.std.proofs.Common.{inr}
use Rattle.cj_answers.proofs.yaml_words.fault_words.Goals as goal

pub returns : goal.returns
returns c =
    inr (record {
      place = c.args.fault.place;
      why = c.as_str.result.now;
      inside = c.requires;
      are = c.in_ok-yaml_line.ensures;
    })
