-- work, its loop: it can go on, the pass is the one given with new receipts behind, and these are
-- of whole syncs.
use Rattle.cj_worker.specs.Syncs.{IsSync}
use Rattle.cj_worker.specs.Workers.{Extends, Gets}
use Rattle.cj_worker.proofs.Synced.{SoFar}
use Rattle.cj_worker.proofs.work.work.Given as goal

abbrev pub invariant-loop : goal.invariant-loop
invariant-loop g l = record {
  can : (goal.iterator-loop g).can_next l.iterator';
  ends : (goal.iterator-loop g).is_finite l.iterator';
  longer : Extends l.fn.pass l.pass;
  syncs : Gets l.fn.pass l.pass (SoFar (IsSync (g.C.Clock.gives l.clock) (g.G.Gate.may_stop l.gate) l.zones));
}
