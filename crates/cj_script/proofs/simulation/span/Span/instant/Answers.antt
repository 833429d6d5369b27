-- Span::instant: its clause within, where so many steps are more than 64 bits can say.
use Rattle.std.proofs.Common.{◌∙◌, ◌≤◌, ap, subst, IsSome}
use Rattle.cj_base.specs.Instant.{last_second}
use Rattle.cj_script.proofs.SimulationLemmas.Clock.{no_instant}
use Rattle.cj_script.proofs.simulation.span.Span.instant.Goals as goal

pub returns-in_err-offset-clause-within : goal.returns-in_err-offset-clause-within
returns-in_err-offset-clause-within c =
    let far = c.in_err-offset.ensures in
    let last = subst (λ t. t ≤ last_second) (c.get-end.ensures.value ∙ ap (λ s. s.end) c.self.view_is)
    c.get-end.ensures.in_range in (
      λ some. absurd (cc (subst IsSome c.from_residual.ensures some)),
      λ within. absurd (no_instant c.args.self.now c.args.n c.self.inside.step
          (ap (λ s. s.step) c.self.view_is) last far within),
    )
