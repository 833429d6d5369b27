-- told_of, its loop over the reasons: told has those gone through that were told of the key.
use Rattle.std.proofs.Common.{◌≡◌, take}
use Rattle.cj_report.specs.Tellings.{known_of}
use Rattle.cj_report.proofs.reasons.told_of.Given as goal

abbrev pub invariant-loop-reason : goal.invariant-loop-reason
invariant-loop-reason l = l.told.items ≡ known_of l.key l.tellings (take l.reason-index l.reasons)
