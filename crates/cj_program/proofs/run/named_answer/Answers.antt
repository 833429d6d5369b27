-- named_answer: its ensures, by whether there are lines.
use Rattle.std.proofs.Common.{inl, inr, string_bytes}
use Rattle.std.proofs.lemmas.Result.{IfOk-weaker}
use Rattle.cj_program.proofs.run.named_answer.Goals as goal

pub returns-then-is_empty : goal.returns-then-is_empty
returns-then-is_empty c = c.ran_answer.ensures

pub returns-else-is_empty : goal.returns-else-is_empty
returns-else-is_empty c = λ given said ran_so.
    IfOk-weaker c.refused_unknown.result _ _
    (λ a h. inr (inl (record {
      simulation = c.args.simulation.now;
      said = said;
      log = c.args.ran.closed;
      text = string_bytes c.args.ran.report;
      run = ran_so;
      lines = c.args.unknown.now;
      answer = h;
    })))
    c.refused_unknown.ensures
