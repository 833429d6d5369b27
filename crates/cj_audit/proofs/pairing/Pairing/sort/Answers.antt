-- sort: its clause sorted, since what is sorted rises.
use Rattle.std.proofs.Common.{rules}
use Rattle.std.proofs.lemmas.Fn.{always_returns_same}
use Rattle.cj_status.proofs.Sorts.{rises}
use Rattle.cj_audit.specs.Pairs.{comes_before}
use Rattle.cj_audit.proofs.Orders.{runs_rank}
use Rattle.cj_audit.proofs.pairing.Pairing.sort.Goals as goal

pub returns-clause-sorted : goal.returns-clause-sorted
returns-clause-sorted c =
    rises (comes_before c.args.self) (runs_rank c.args.self) c.sort_by.new.self.items
    (c.in_ok-sort_by.ensures.sorted (comes_before c.args.self) (runs_rank c.args.self)
    (always_returns_same _ _ _ (λ a r f k. search rules)))
