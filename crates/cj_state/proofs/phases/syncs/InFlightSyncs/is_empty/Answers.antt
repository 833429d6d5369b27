-- InFlightSyncs::is_empty: its one clause, that there are no rows just where the map is empty.
use Rattle.std.proofs.Common.{sym, ap, length, ◌∙◌}
use Rattle.cj_state.proofs.PhasesLemmas.Tables.{no_rows, none_left}
use Rattle.cj_state.proofs.phases.syncs.InFlightSyncs.is_empty.Goals as goal

pub returns : goal.returns
returns c = (
  λ t. sym c.self.view_is ∙ no_rows c.self.inside.rows.entries (c.is_empty.ensures.0 t),
  λ e. c.is_empty.ensures.1 (ap length (none_left c.self.inside.rows.entries (c.self.view_is ∙ e))),
)
