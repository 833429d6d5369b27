-- push_open, its loop over the Jobs: the bars are those at first, and those of the Jobs gone through.
use Rattle.std.proofs.Common.{◌≡◌, ◌++◌, map}
use Rattle.cj_report.specs.timeline.Bars.{open_bar}
use Rattle.cj_report.proofs.timeline.bars.push_open.Given as goal

abbrev pub invariant-loop-job : goal.invariant-loop-job
invariant-loop-job l = l.bars.items ≡ l.initial.bars.items ++ map open_bar l.yielded
