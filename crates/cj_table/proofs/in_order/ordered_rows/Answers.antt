-- ordered_rows: its clause ok, as the rows that are found are all and then stand in the order of keys.
use Rattle.std.proofs.Common.{rules, ◌≡◌, map}
use Rattle.std.specs.Map.Iter.{deref_pair}
use Rattle.std.specs.Ordering.{is_lt}
use Rattle.std.proofs.lemmas.List.MinMax.{ranks_by}
use Rattle.std.proofs.lemmas.List.Sorted.{answers_always}
use Rattle.cj_types.specs.Keys.{place_cmp}
use Rattle.cj_table.proofs.Order.{places_total}
use Rattle.cj_table.proofs.Sorted.{ordered}
use Rattle.cj_table.proofs.in_order.ordered_rows.Goals as goal

pub returns-clause-ok : goal.returns-clause-ok
returns-clause-ok g c =
    let all : map deref_pair c.in_ok-found.found.items ≡ c.args.rows.now.entries = search rules in
    let sorted = c.sort_unstable_by.ensures.sorted (λ a b. is_lt (place_cmp a.0.now b.0.now))
    (ranks_by places_total (λ a. a.0.now)) (answers_always _ _ _ (λ f a r n h. search rules)) in
    ordered _ _ _ all c.iter.ensures.ordered c.sort_unstable_by.ensures.permutation sorted
