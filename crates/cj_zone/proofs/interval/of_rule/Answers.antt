-- of_rule in interval: its clause other, with daylight saving time and without.
use Rattle.cj_zone.proofs.IntervalLemmas.{other_back, none_back}
use Rattle.cj_zone.proofs.interval.of_rule.Goals as goal

pub returns-in-Some-clause-other : goal.returns-in-Some-clause-other
returns-in-Some-clause-other c = other_back c.args.rule c.in-Some.daylight c.in-Some.is

pub returns-in-None-clause-other : goal.returns-in-None-clause-other
returns-in-None-clause-other c = none_back c.args.rule c.in-None.is
