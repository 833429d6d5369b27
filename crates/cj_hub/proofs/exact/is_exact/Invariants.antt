-- is_exact: its loop; at each turn the receipts left are the pass's of the entries to come just
-- where all receipts are its of all entries, and the place is that of the next entry.
use Rattle.std.proofs.Common.{◌≡◌, ◌+◌, drop}
use Rattle.std.specs.Prelude.{◌↔◌}
use Rattle.cj_hub.specs.Walks.{placed_from}
use Rattle.cj_hub.proofs.exact.is_exact.Given as goal

abbrev pub invariant-loop-entry : goal.invariant-loop-entry
invariant-loop-entry l = record {
  at : l.place ≡ l.entry-index + 1;
  same : (l.rest ≡ placed_from l.number l.place (drop l.entry-index l.entries)) ↔
      (l.fn.receipts ≡ placed_from l.number 1 l.entries);
}
