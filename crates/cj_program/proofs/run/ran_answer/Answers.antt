-- ran_answer: its ensures, from the report of the run, what was seen of the bytes and what is told of the history.
use Rattle.std.proofs.Common.{◌∙◌, ap, inr, ℕ, List, ◌++◌, string_bytes, subst}
use Rattle.cj_world.specs.Worlds.{WorldLog}
use Rattle.cj_answers.specs.Outcome.{done, explained}
use Rattle.cj_program.specs.remarks.Remarks.{IsAskedRemark, most_lines}
use Rattle.cj_program.proofs.run.ran_answer.Goals as goal

pub returns : goal.returns
returns c = λ given said ran_so.
    let ran = c.args.ran in
    let simulation = c.args.simulation.now in
    let explain = c.args.run.now.explain in
    let seen = string_bytes c.in_ok-seen.seen in
    let remark = string_bytes c.in_ok-remark.remark in
    let printed = string_bytes c.in_ok-printed.printed in
    inr (inr (record {
      simulation = simulation;
      said = said;
      log = ran.closed;
      text = string_bytes ran.report;
      run = ran_so;
      printed = printed;
      shown = c.in_ok-printed.ensures;
      seen = seen;
      looked = c.in_ok-seen.ensures;
      remark = remark;
      remarked = subst (λ (w : WorldLog). IsAskedRemark explain most_lines simulation.span simulation.zones w remark)
          c.get.ensures c.in_ok-remark.ensures;
      answer = c.in_ok-reported.ensures
          ∙ ap (λ (w : List ℕ). explained explain (w ++ c.as_str-2.result.now) (done printed))
          c.as_str.ensures.value
          ∙ ap (λ (w : List ℕ). explained explain (seen ++ w) (done printed)) c.as_str-2.ensures.value;
    }))
