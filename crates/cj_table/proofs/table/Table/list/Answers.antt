-- Table::list: its clause ok, as the copies are the values of all rows, which stand in the order of keys.
use Rattle.std.proofs.Common.{ap, ◌∙◌, map as map_list}
use Rattle.std.specs.Map.Iter.{deref_pair}
use Rattle.std.specs.FinMap as map
use Rattle.cj_table.proofs.Sorted.{listed}
use Rattle.cj_table.proofs.table.Table.list.Goals as goal

pub returns-clause-ok : goal.returns-clause-ok
returns-clause-ok g c =
    let rows = c.deref-value-items.ensures.value in
    let shown = ap (map_list deref_pair) rows ∙ c.in_ok-rows.ensures.ok
    ∙ ap (λ (m : map.FinMap _ _). map.entries m) c.self.view_is in
    c.loop-value.invariant ∙ listed _ _ _ c.loop-value-test.false shown
