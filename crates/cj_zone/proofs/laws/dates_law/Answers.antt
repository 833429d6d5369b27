-- dates_law: its one clause, from the lemma date_near of ZoneLemmas.
use Rattle.cj_zone.proofs.ZoneLemmas.{date_near}
use Rattle.cj_zone.proofs.laws.dates_law.Goals as goal

pub returns : goal.returns
returns c = date_near
