-- apart_laws: its clauses places and numbers, each a lemma by itself.
use Rattle.cj_table.proofs.Apart.{places_apart, numbers_apart}
use Rattle.cj_table.proofs.laws.apart_laws.Goals as goal

pub returns-clause-places : goal.returns-clause-places
returns-clause-places g c = places_apart _

pub returns-clause-numbers : goal.returns-clause-numbers
returns-clause-numbers g c = numbers_apart _
