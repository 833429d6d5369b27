-- Hub::close: all its clauses, from those of Book::close.
use Rattle.std.proofs.Common.{All}
use Rattle.cj_state.specs.Legal.{IsLegal}
use Rattle.cj_world_laws.specs.legal.Exclusive.{Exclusive}
use Rattle.cj_world_laws.specs.once.Once.{Once, Alone}
use Rattle.cj_hub.specs.Receipts.{IsExact}
use Rattle.cj_hub.proofs.Closing.{closed_has, same_passes, still_refused}
use Rattle.cj_hub.proofs.hub.Hub.close.Goals as goal

pub returns-clause-exact : goal.returns-clause-exact
returns-clause-exact c = closed_has (λ l h. All (IsExact h) c.args.passes.items) _ _ c.close.result
    c.close.ensures.history c.close.ensures.exact

pub returns-clause-legal : goal.returns-clause-legal
returns-clause-legal c = closed_has (λ l h. IsLegal l.window h) _ _ c.close.result c.close.ensures.history
    c.close.ensures.legal

pub returns-clause-exclusive : goal.returns-clause-exclusive
returns-clause-exclusive c = closed_has (λ l h. Exclusive h) _ _ c.close.result c.close.ensures.history
    c.close.ensures.exclusive

pub returns-clause-once : goal.returns-clause-once
returns-clause-once c = closed_has (λ l h. Once l.window h) _ _ c.close.result c.close.ensures.history
    c.close.ensures.once

pub returns-clause-alone : goal.returns-clause-alone
returns-clause-alone c = closed_has (λ l h. Alone l.window h) _ _ c.close.result c.close.ensures.history
    c.close.ensures.alone

pub returns-clause-same : goal.returns-clause-same
returns-clause-same c = same_passes _ _ c.close.result c.close.ensures.same

pub returns-clause-refused : goal.returns-clause-refused
returns-clause-refused c = still_refused _ _ c.close.result c.close.ensures.ok c.close.ensures.same
    c.close.ensures.refusal
