-- Intervals::put: its clause ok, from what an insert does to the map.
use Rattle.cj_history.proofs.GapsLemmas.IntervalLemmas.{interval_put}
use Rattle.cj_history.proofs.gaps.intervals.Intervals.put.Goals as goal

pub returns-in-Ok-clause-ok : goal.returns-in-Ok-clause-ok
returns-in-Ok-clause-ok c =
    interval_put c.args.uid c.args.interval c.args.self.now (record { intervals = c.insert.new.self })
    c.in-Ok.ensures.updates
