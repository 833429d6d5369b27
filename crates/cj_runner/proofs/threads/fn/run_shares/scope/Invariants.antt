-- The scope of run_shares: its loops; each thread is of its share, and each end of its thread.
use Rattle.std.specs.List.{AllZip}
use Rattle.cj_runner.proofs.Wholes.{IsOf, ComesOf}
use Rattle.cj_runner.proofs.threads.fn.run_shares.scope.Given as goal

abbrev pub invariant-loop-share : goal.invariant-loop-share
invariant-loop-share g l = AllZip (IsOf (λ h. h.promise.share.value) (λ h. h.promise.now) l.now) l.yielded
    l.started.items

abbrev pub invariant-loop-child : goal.invariant-loop-child
invariant-loop-child g l = AllZip (ComesOf (λ h. h.promise.share.value) (λ h. h.promise.now)) l.yielded l.ends.items
