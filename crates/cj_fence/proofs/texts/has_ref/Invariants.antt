-- has_ref, its loop: what the references left have, all have.
use Rattle.std.proofs.Common.{◌≡◌, drop}
use Rattle.cj_fence.specs.Objects.{ref, has_ref}
use Rattle.cj_fence.proofs.texts.has_ref.Given as goal

abbrev pub invariant-loop-one : goal.invariant-loop-one
invariant-loop-one l = has_ref (drop l.one-index l.list) (ref l.name l.uid) ≡ has_ref l.list (ref l.name l.uid)
