-- InFlightSyncs::replace: its one clause; the insert can't fail, as the worker has a sync.
use Rattle.std.proofs.Common.{ap, ◌∙◌}
use Rattle.std.specs.FinMap.{insert}
use Rattle.cj_state.proofs.PhasesLemmas.Tables.{inserted, get_is, present}
use Rattle.cj_state.proofs.phases.syncs.InFlightSyncs.replace.Goals as goal

pub returns : goal.returns
returns c =
    inserted c.self.inside.rows.entries c.insert.new.self.entries c.args.worker c.args.sync
    ((present c.insert.result (get_is c.args.worker c.self.inside.rows.entries)
    (rw c.self.view_is c.requires) c.insert.ensures.absent c.insert.ensures.updates).0)
    ∙ ap (λ m. insert m c.args.worker c.args.sync) c.self.view_is
