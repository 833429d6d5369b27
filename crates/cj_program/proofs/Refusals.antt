-- What was refused, with the entries gone through.
use Rattle.std.proofs.Common.{◌≡◌, ◌∙◌, ℕ, List, ◌∷◌, ◌++◌, ap}
use Rattle.cj_calls.specs.Rows.{Told}
use Rattle.cj_script.specs.simulation.Spans.{SpanView}
use Rattle.cj_run.specs.Turns.{progress_after, progress_of, turn}
use Rattle.cj_run.specs.declared.turns.Progress.{Progress}
use Rattle.cj_program.specs.remarks.Refused.{line_if, moment, refused_lines}

module _ (s : SpanView) (e : Told) (h past : List Told) (is : e ∷ h ≡ past) (p p' : Progress)
    (went : p ≡ progress_of s h) where
  -- For refused_text: how far a run is with an entry more.
  pub went_more : p' ≡ progress_after s p e.caller.role e.call → p' ≡ progress_of s past
  went_more more =
      more ∙ ap (λ (q : Progress). progress_after s q e.caller.role e.call) went ∙ ap (progress_of s) is

  -- For refused_text: what was refused with an entry more.
  pub refused_more : (t t' : List ℕ) → t' ≡ t ++ line_if (moment s p.begun) e.caller.role e.call e.answer
      → t ≡ refused_lines s h
      → t' ≡ refused_lines s past
  refused_more t t' more told =
      more
      ∙ ap (λ (q : Progress). t ++ line_if (moment s q.begun) e.caller.role e.call e.answer) went
      ∙ ap (λ (x : List ℕ). x ++ line_if (moment s (turn s h)) e.caller.role e.call e.answer) told
      ∙ ap (refused_lines s) is
