-- sort: its clause sorted, since what is sorted rises.
use Rattle.std.proofs.Common.{rules}
use Rattle.std.proofs.lemmas.Fn.{always_returns_same}
use Rattle.cj_status.proofs.Sorts.{rises}
use Rattle.cj_upcoming.specs.Minutes.{is_fuller}
use Rattle.cj_upcoming.proofs.Orders.{minutes_rank}
use Rattle.cj_upcoming.proofs.peaks.sort.Goals as goal

pub returns-clause-sorted : goal.returns-clause-sorted
returns-clause-sorted c =
    rises is_fuller minutes_rank c.sort_by.new.self.items
    (c.in_ok-sort_by.ensures.sorted is_fuller minutes_rank (always_returns_same _ _ _ (λ a r f k. search rules)))
