-- made_law: its one clause, from what the zone's rules are known to be.
use Rattle.cj_zone.proofs.laws.made_law.Goals as goal

pub returns : goal.returns
returns c = record { rules = c.rules.result.now; clock = c.rules.ensures }
