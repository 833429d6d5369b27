-- sync_once: its clause shown, from the entries that the sync adds.
use Rattle.cj_worker.proofs.Shown.{shown}
use Rattle.cj_worker.proofs.sync.sync_once.Goals as goal

pub returns-clause-shown : goal.returns-clause-shown
returns-clause-shown g c = shown _ _ _ _ _ (g.C.Clock.gives c.args.clock.now)
    (g.G.Gate.may_stop c.args.gate.now) c.args.zones.now c.sync_one.result c.sync_one.ensures.entries
