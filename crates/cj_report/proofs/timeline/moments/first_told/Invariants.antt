-- first_told, its loop over the entries: none of those gone through tells a moment.
use Rattle.std.proofs.Common.{◌≡◌, drop}
use Rattle.cj_report.specs.timeline.Moments.{first_told}
use Rattle.cj_report.proofs.timeline.moments.first_told.Given as goal

abbrev pub invariant-loop-entry : goal.invariant-loop-entry
invariant-loop-entry l = first_told (drop l.entry-index l.entries) ≡ first_told l.entries
