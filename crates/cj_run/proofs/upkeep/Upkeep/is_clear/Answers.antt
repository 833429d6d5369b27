-- Upkeep::is_clear: where an instant is over, nothing is left if no test says otherwise.
use Rattle.std.proofs.Common.{sym, ◌∙◌}
use Rattle.std.proofs.lemmas.Bool.{false≢true}
use Rattle.cj_run.proofs.upkeep.Upkeep.is_clear.Goals as goal
use Rattle.cj_run.proofs.upkeep.Upkeep.is_clear.Goals.{then-idle, else-idle}

pub returns : goal.returns
returns c = λ t over. elim c.if-idle.branch [
  | then-idle w ↦ record {
    idle = c.is_idle-idle.ensures w.if-idle.true;
    taken = c.in_ok-none.ensures (sym w.result-is ∙ t);
  }
  | else-idle w ↦ absurd (false≢true (sym w.if-idle.false ∙ (sym w.result-is ∙ t)))
]
