-- Span::has: its clause exact, between the start and the end.
use Rattle.std.proofs.Common.{◌∙◌, ◌≤◌, ap, subst}
use Rattle.cj_script.proofs.SimulationLemmas.Clock.{has_exact}
use Rattle.cj_script.proofs.simulation.span.Span.has.Goals as goal

pub returns-then-moment-end-clause-exact : goal.returns-then-moment-end-clause-exact
returns-then-moment-end-clause-exact c =
    has_exact c.args.self.now c.args.at c.get-start.result c.get-moment.result c.self.inside.step
    (c.get-start.ensures.value ∙ ap (λ s. s.start) c.self.view_is) c.get-moment.ensures.value
    (ap (λ s. s.step) c.self.view_is)
    c.if-moment-end.true.0
    (subst (λ t. c.get-moment.result ≤ t) (c.get-end.ensures.value ∙ ap (λ s. s.end) c.self.view_is)
    c.if-moment-end.true.1)
