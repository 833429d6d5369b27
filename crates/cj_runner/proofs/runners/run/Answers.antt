-- run: its clauses back and ok, from the shares, what came of them and what was gathered.
use Rattle.std.proofs.Common.{List, ap, subst, sym, ◌∙◌}
use Rattle.cj_hub.specs.Receipts.{PassView}
use Rattle.cj_hub.specs.declared.receipt.Receipt.{Receipt}
use Rattle.cj_runner.specs.Dues.{due_ends}
use Rattle.cj_runner.specs.declared.running.Running.{Running}
use Rattle.cj_runner.specs.Ends.{AreEnded, CameBack}
use Rattle.cj_runner.proofs.Wholes.{are_ended, came_back}
use Rattle.cj_runner.proofs.runners.run.Goals as goal

pub returns-clause-back : goal.returns-clause-back
returns-clause-back g c =
    subst (λ (ps : List PassView). CameBack c.args.now c.args.running.items c.args.passes.items ps)
    (sym c.leave.ensures.passes)
    (came_back c.args.now c.args.passes.items c.args.running.items c.in_ok-shares.left.items c.in_ok-shares.shares.items
    c.in_ok-ends.ends.items c.gather.result c.in_ok-shares.ensures c.in_ok-ends.ensures c.gather.ensures)

pub returns-clause-ok : goal.returns-clause-ok
returns-clause-ok g c =
    λ none. subst (λ (ps : List PassView). AreEnded c.args.now c.args.running.items c.args.passes.items ps
    c.leave.result.receipts.items) (sym c.leave.ensures.passes)
    (subst (λ (rs : List Receipt). AreEnded c.args.now c.args.running.items c.args.passes.items
    c.gather.result.passes.items rs) (sym c.leave.ensures.receipts)
    (are_ended c.args.now c.args.passes.items c.args.running.items c.in_ok-shares.left.items c.in_ok-shares.shares.items
    c.in_ok-ends.ends.items c.gather.result c.in_ok-shares.ensures c.in_ok-ends.ensures
    c.gather.ensures (c.leave.ensures.stop none).0
    (ap (λ (rs : List Running). due_ends c.args.now rs) (sym c.as_slice.ensures.value)
    ∙ (c.leave.ensures.stop none).1)))
