-- without_ref, its loop: what is left by now, and what is left of the references to come, are all that is left.
use Rattle.std.proofs.Common.{◌≡◌, ◌++◌, drop}
use Rattle.cj_fence.specs.Objects.{without_ref}
use Rattle.cj_fence.proofs.advance.without_ref.Given as goal

abbrev pub invariant-loop-one : goal.invariant-loop-one
invariant-loop-one l =
    l.left ++ without_ref l.job (drop l.one-index l.refs) ≡ without_ref l.job l.refs
