-- Outline::of: its clause ok: the calls of the steps, and the reasons for each end.
use Rattle.std.proofs.Common.{ap, ◌∙◌, ◌∷◌, ◌++◌, [], map}
use Rattle.std.proofs.lemmas.Result.{IfOk-at_ok}
use Rattle.cj_state.specs.phases.Steps.{all_steps}
use Rattle.cj_types.specs.declared.policy.Reason.TheVariants.{FailedCreate}
use Rattle.cj_worker.specs.Outlines.{next_of}
use Rattle.cj_worker.proofs.Outlines.{steps_called}
use Rattle.cj_worker.proofs.outline.Outline.of.Goals as goal

pub returns-clause-ok : goal.returns-clause-ok
returns-clause-ok c =
    let all = c.in_ok-steps.ensures.ok in
    let reasons = ap (λ s. s.reasons) c.steps.ensures.steps in record {
      steps = steps_called c.args.plan.now.steps c.in_ok-steps.steps.items
          (IfOk-at_ok _ all.0 c.steps_of.ensures.ok
          ∙ ap (λ s. map next_of (all_steps s)) c.steps-2.ensures.steps);
      done = IfOk-at_ok _ all.1 c.try_copy.ensures.ok ∙ reasons;
      retry = IfOk-at_ok _ all.2 c.try_copy-2.ensures.ok ∙ reasons;
      failed = IfOk-at_ok _ all.3 c.failed_with.ensures.ok ∙ ap (λ rs. rs ++ FailedCreate ∷ []) reasons;
    }
