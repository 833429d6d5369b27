-- mark: its clause ok, from what an insert does to the set.
use Rattle.cj_audit.proofs.Marking.{mark_one}
use Rattle.cj_audit.proofs.marks.mark.Goals as goal

pub returns-in-Ok-clause-ok : goal.returns-in-Ok-clause-ok
returns-in-Ok-clause-ok c =
    mark_one c.args.run.now c.in-Some.time c.args.times.now c.insert.new.self c.in-Some.is c.in-Ok.ensures.updates
