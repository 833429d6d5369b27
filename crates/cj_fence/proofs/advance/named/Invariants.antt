-- named, its loop: what was found by now, and those of the references left that name a Job, are all.
use Rattle.std.proofs.Common.{◌≡◌, ◌++◌, drop}
use Rattle.cj_fence.specs.Objects.{named}
use Rattle.cj_fence.proofs.advance.named.Given as goal

abbrev pub invariant-loop-one : goal.invariant-loop-one
invariant-loop-one l = l.found ++ named (drop l.one-index l.refs) ≡ named l.refs
