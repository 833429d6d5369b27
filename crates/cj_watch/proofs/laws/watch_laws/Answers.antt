-- watch_laws: its clauses keeps_latest and tells_all, each a lemma by itself.
use Rattle.cj_watch.proofs.Logs.{keeps_latest, tells_all}
use Rattle.cj_watch.proofs.laws.watch_laws.Goals as goal

pub returns-clause-keeps_latest : goal.returns-clause-keeps_latest
returns-clause-keeps_latest c = keeps_latest

pub returns-clause-tells_all : goal.returns-clause-tells_all
returns-clause-tells_all c = tells_all
