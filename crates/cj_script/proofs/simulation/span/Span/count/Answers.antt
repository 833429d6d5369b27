-- Span::count: that its addition does not overflow.
use Rattle.cj_script.proofs.SimulationLemmas.Clock.{steps_fit}
use Rattle.cj_script.proofs.simulation.span.Span.count.Goals as goal

pub overflow_add-result : goal.overflow_add-result
overflow_add-result c = steps_fit c.length.result c.self.inside.step c.length.ensures.in_range
