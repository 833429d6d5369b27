-- is_free: its ensures.
use Rattle.std.proofs.Common.{◌≡◌, sym, subst, ◌↔◌, IsTrue}
use Rattle.cj_control.specs.Syncs.{IsFree, Rows}
use Rattle.cj_control.proofs.RowLemmas.{free_there, free_back}
use Rattle.cj_control.proofs.rows.SyncRows.is_free.Goals as goal

pub returns : goal.returns
returns c = subst (λ (m : Rows). IsTrue c.are_others.result ↔ IsFree c.args.name.now m) c.self.view_is (
  (λ t. free_there c.self.inside.rows c.are_others.ensures.ordered c.args.name.now
      (c.are_others.ensures.each.0 t)),
  (λ f. c.are_others.ensures.each.1
      (free_back c.self.inside.rows c.are_others.ensures.ordered c.args.name.now f)),
)
