-- sort: its clause ok, since the sorted Jobs are those in order of their names.
use Rattle.std.proofs.Common.{rules}
use Rattle.std.specs.Cmp.{IsStrictWeakOrder}
use Rattle.std.proofs.lemmas.Cmp.{nat_list_cmp_total, on_total}
use Rattle.std.proofs.lemmas.Fn.{always_returns_same}
use Rattle.std.proofs.lemmas.List.Sorted.{ranks_by}
use Rattle.cj_status.proofs.Sorts.{sorted_is}
use Rattle.cj_scenario.specs.Live.{is_before, name_cmp}
use Rattle.cj_scenario.proofs.live.sort.Goals as goal

-- To have the lesser name is an order that Jobs can be sorted by.
by_name : IsStrictWeakOrder is_before
by_name = ranks_by {R = name_cmp} (on_total (λ job. job.key.name) nat_list_cmp_total) (λ job. job)

pub returns-in-Ok-clause-ok : goal.returns-in-Ok-clause-ok
returns-in-Ok-clause-ok c =
    sorted_is is_before by_name c.args.jobs.now.items c.sort_by.new.self.items
    (c.in-Ok.ensures.sorted is_before by_name (always_returns_same _ _ _ (λ a r f k. search rules)))
    (c.sort_by.ensures.stable is_before by_name (always_returns_same _ _ _ (λ a r f k. search rules)))
