-- sync_on: its clauses longer, synced and ended, from what sync_once ensures of the pass and of its
-- end.
use Rattle.cj_worker.proofs.Passes.{ended, longer}
use Rattle.cj_worker.proofs.Synced.{synced}
use Rattle.cj_worker.specs.Syncs.{IsSync}
use Rattle.cj_worker.proofs.work.sync_on.Goals as goal

pub returns-clause-longer : goal.returns-clause-longer
returns-clause-longer g c = longer c.sync_once-end.ensures.entries

pub returns-clause-synced : goal.returns-clause-synced
returns-clause-synced g c = synced (IsSync (g.C.Clock.gives c.args.clock.now) (g.G.Gate.may_stop c.args.gate.now)
    c.args.zones.now) _ _ c.sync_once-end.result c.after.result c.after.ensures c.sync_once-end.ensures.entries

pub returns-clause-ended : goal.returns-clause-ended
returns-clause-ended g c = ended _ _ c.sync_once-end.result c.after.result c.after.ensures c.sync_once-end.ensures.shown
