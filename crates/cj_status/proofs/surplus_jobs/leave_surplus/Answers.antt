-- leave_surplus: its one clause, where the limit is above the count, where it is 0, and where it is neither.
use Rattle.std.proofs.Common.{◌≡◌, ◌∙◌, ap, sym, arith}
use Rattle.cj_status.specs.Surplus.{not_kept}
use Rattle.cj_status.proofs.NotKept.{surplus_by, surplus_none, surplus_all}
use Rattle.cj_status.proofs.surplus_jobs.leave_surplus.Goals as goal

pub returns-then-limit-count : goal.returns-then-limit-count
returns-then-limit-count c = c.clear.ensures.items
    ∙ sym (surplus_none c.args.items.now.items c.args.limit (omega arith))

pub returns-else-limit-gt0 : goal.returns-else-limit-gt0
returns-else-limit-gt0 c =
    let none : c.args.limit ≡ 0 = omega arith in
    sym (ap (λ n. not_kept n c.args.items.now.items) none ∙ surplus_all c.args.items.now.items)

pub returns-then-limit-gt0 : goal.returns-then-limit-gt0
returns-then-limit-gt0 c =
    surplus_by c.args.items.now.items c.as_slice.result.now c.truncate.new.self.items c.args.limit c.len-count.result
    c.older_count-keep.result c.index.result.now
    c.truncate.ensures.items c.older_count-keep.ensures.place c.index.ensures c.as_slice.ensures.value
    (omega arith) c.requires.rises (omega arith) (omega arith)
