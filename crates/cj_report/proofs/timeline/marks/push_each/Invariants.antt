-- push_each, its loop over the reasons: the marks so far and those of the reasons left are the marks at first and those
-- of all.
use Rattle.std.proofs.Common.{◌≡◌, ◌++◌, drop, map}
use Rattle.cj_report.specs.timeline.Marks.{mark_of}
use Rattle.cj_report.proofs.timeline.marks.push_each.Given as goal

abbrev pub invariant-loop-reason : goal.invariant-loop-reason
invariant-loop-reason l =
    l.marks.items ++ map (mark_of l.key l.at) (drop l.reason-index l.reasons)
    ≡ l.initial.marks.items ++ map (mark_of l.key l.at) l.reasons
