-- Families::put: its clause ok, from what an insert does to the map.
use Rattle.cj_program.proofs.Counted.{stands}
use Rattle.cj_program.proofs.remarks.families.Families.put.Goals as goal

pub returns-in-Ok-clause-ok : goal.returns-in-Ok-clause-ok
returns-in-Ok-clause-ok c =
    stands c.args.kind c.args.tally c.args.self.now (record { tallies = c.insert.new.self }) c.in-Ok.ensures.updates
