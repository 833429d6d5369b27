-- sort_out, its loop over the Jobs: due has those gone through that are due, others has the rest,
-- and the Jobs gone through and those left are all.
use Rattle.std.proofs.Common.{◌≡◌, ◌++◌}
use Rattle.std.specs.Prelude.{filter, not}
use Rattle.std.specs.Vec.Iter.{into_iter_items}
use Rattle.cj_runner.specs.Dues.{is_due}
use Rattle.cj_run.proofs.ends.sort_out.Given as goal

abbrev pub invariant-loop-job : goal.invariant-loop-job
invariant-loop-job l = record {
  left : l.yielded ++ into_iter_items l.job-iterator ≡ l.fn.running.items;
  due : l.sorted.due.items ≡ filter (is_due l.now) l.yielded;
  others : l.sorted.others.items ≡ filter (λ r. not (is_due l.now r)) l.yielded;
}
