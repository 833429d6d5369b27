-- end_share: its loop; at each turn the receipts are of the ends due among the Jobs gone through.
use Rattle.std.proofs.Common.{◌≡◌, ◌++◌, IsTrue}
use Rattle.std.specs.Vec.Iter.{into_iter_items}
use Rattle.cj_hub.specs.Runs.{extended}
use Rattle.cj_runner.specs.Dues.{due_ends}
use Rattle.cj_runner.specs.Ends.{Keeps, calls_of, entries_of}
use Rattle.cj_runner.proofs.ending.end_share.Given as goal

abbrev pub invariant-loop-one : goal.invariant-loop-one
invariant-loop-one g l = record {
  left : l.yielded ++ into_iter_items l.one-iterator ≡ l.fn.running.items;
  keeps : Keeps l.initial.pass l.pass l.receipts.items;
  told : IsTrue g.D.Desk.tells → g.D.Desk.history l.desk ≡ extended (g.D.Desk.history l.initial.desk)
      (entries_of l.receipts.items);
  calls : calls_of l.receipts.items ≡ due_ends l.now l.yielded;
}
