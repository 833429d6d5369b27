-- planned: its ensures, from the scene's plan, why it is so, and what is told beside.
use Rattle.std.proofs.Common.{◌++◌, ◌∙◌, ap, inr, subst, ℕ, List, string_bytes}
use Rattle.std.proofs.lemmas.Result.{IfOk-weaker}
use Rattle.cj_answers.specs.Outcome.{done, explained}
use Rattle.cj_decide.specs.declared.steps.Steps.{Steps}
use Rattle.cj_check.specs.Plan.{IsPlanPrinted}
use Rattle.cj_answers.specs.as_json.Forms.{is_json}
use Rattle.cj_check.proofs.plan.planned.Goals as goal

pub returns : goal.returns
returns c = λ given bytes said told.
    IfOk-weaker c.printed.result _ _
    (λ a e. inr (record {
      scene = c.args.scene;
      said = said;
      steps = c.in_ok-plan.plan.steps;
      decided = c.in_ok-plan.ensures;
      why = string_bytes c.in_ok-why.why;
      reason = c.in_ok-why.ensures;
      beside = c.args.beside.now;
      told = told;
      printed = string_bytes c.in_ok-text.text;
      prints = subst (λ (s : Steps). IsPlanPrinted (is_json c.args.output.now) s (string_bytes c.in_ok-text.text))
          c.steps.ensures.steps
          c.in_ok-text.ensures.ok;
      answer = e
          ∙ ap (λ (w : List ℕ). explained c.args.explain (w
          ++ c.args.beside.now) (done (string_bytes c.in_ok-text.text)))
          c.as_str.ensures.value;
    }))
    c.printed.ensures
