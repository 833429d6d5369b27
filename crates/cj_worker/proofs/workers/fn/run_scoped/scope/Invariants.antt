-- run_scoped, the loops of its scope: the passes of the started threads are part of those gone
-- through, and each thread was given the gate, the clock and the zones; and the ends are those of
-- the threads joined so far, in their order.
use Rattle.std.proofs.Common.{◌≡◌, map}
use Rattle.std.specs.List.{AllByRecursion, AllZip}
use Rattle.cj_worker.specs.Workers.{IsPart, Went}
use Rattle.cj_worker.proofs.workers.fn.run_scoped.scope.Given as goal

abbrev pub invariant-loop-pass : goal.invariant-loop-pass
invariant-loop-pass g l = IsPart (map (λ h. h.promise.pass.value) l.started.items) l.yielded
    × AllByRecursion (λ h. (h.promise.clock.value ≡ l.clock.now) × (h.promise.gate.value ≡ l.gate.now)
    × (h.promise.zones.value ≡ l.zones.now)) l.started.items

abbrev pub invariant-loop-child : goal.invariant-loop-child
invariant-loop-child g l = AllZip (λ h e. Went (g.C.Clock.gives h.promise.clock.value)
    (g.G.Gate.may_stop h.promise.gate.value) h.promise.zones.value h.promise.pass.value e) l.yielded l.ends.items
