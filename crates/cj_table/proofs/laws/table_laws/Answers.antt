-- table_laws: all its clauses, each a lemma by itself.
use Rattle.cj_table.proofs.Order.{places_total, places_exact}
use Rattle.cj_table.proofs.Puts.{put_there, removal_there, remove-insert, at_put, at_removal}
use Rattle.cj_table.proofs.laws.table_laws.Goals as goal

pub returns-clause-total : goal.returns-clause-total
returns-clause-total g c = places_total

pub returns-clause-exact : goal.returns-clause-exact
returns-clause-exact g c = places_exact

pub returns-clause-at_put : goal.returns-clause-at_put
returns-clause-at_put g c = λ m k v q. (at_put m k v q).1

pub returns-clause-put : goal.returns-clause-put
returns-clause-put g c = put_there

pub returns-clause-at_removal : goal.returns-clause-at_removal
returns-clause-at_removal g c = λ m k q. (at_removal m k q).1

pub returns-clause-removal : goal.returns-clause-removal
returns-clause-removal g c = removal_there

pub returns-clause-undone : goal.returns-clause-undone
returns-clause-undone g c = remove-insert
