-- run_scoped: the scope's clause, and its two loops: where a thread is started, where it can't be
-- and its pass is lost, and where one is joined.
use Rattle.std.proofs.Common.{◌≡◌, ap, ◌∙◌}
use Rattle.cj_worker.proofs.Passes.{part_lost, kept_more}
use Rattle.cj_worker.proofs.Threads.{all_more, all_yielded, went_some, zip_more}
use Rattle.cj_worker.proofs.workers.fn.run_scoped.scope.Goals as goal

pub loop-pass-preserved-in-Continue-branch-3 : goal.loop-pass-preserved-in-Continue-branch-3
loop-pass-preserved-in-Continue-branch-3 g c =
    let is = c.in-Ok.ensures.ok in
    let given = c.new-promise.ensures in (
      kept_more (λ h. h.promise.pass.value) c.loop-pass.started.items c.push.new.self.items c.in-Ok.child
          c.loop-pass.yielded c.in-Some.pass c.in_ok-push.ensures.items
          (ap (λ p. p.pass.value) is ∙ given.pass) c.loop-pass.invariant.0,
      all_more _ c.loop-pass.started.items c.push.new.self.items c.in-Ok.child c.in_ok-push.ensures.items
          c.loop-pass.invariant.1 (
            ap (λ p. p.clock.value) is ∙ given.clock,
            ap (λ p. p.gate.value) is ∙ given.gate,
            ap (λ p. p.zones.value) is ∙ given.zones,
          ),
    )

pub loop-pass-preserved : goal.loop-pass-preserved
loop-pass-preserved g c = (
  part_lost _ c.loop-pass.yielded c.in-Some.pass c.loop-pass.invariant.0,
  c.loop-pass.invariant.1,
)

pub loop-child-preserved : goal.loop-child-preserved
loop-child-preserved g c =
    zip_more _ c.loop-child.yielded c.loop-child.ends.items c.push-in-loop-child.new.self.items c.in-Some-child.child
    c.join.result c.in_ok-push-2.ensures.items c.loop-child.invariant c.join.ensures

pub returns : goal.returns
returns g c =
    let given = c.into_iter-pass-iterator.ensures.into_iter_gives in
    let e : c.loop-pass.yielded ≡ c.captures.passes.items =
    all_yielded c.captures.passes c.loop-pass.yielded _ _ c.next.new.self given.0 given.1 c.loop-pass.yielded_by
    c.in-None.ensures.steps in
    let begun = c.into_iter-child-iterator.ensures.into_iter_gives in
    let f : c.loop-child.yielded ≡ c.loop-pass.started.items =
    all_yielded c.loop-pass.started c.loop-child.yielded _ _ c.next-in-loop-child.new.self begun.0 begun.1
    c.loop-child.yielded_by c.in-None-child.ensures.steps in
    went_some (λ h. h.promise.pass.value) (λ h. h.promise.clock.value) (λ h. h.promise.gate.value)
    (λ h. h.promise.zones.value) g.C.Clock.gives g.G.Gate.may_stop _ _ _ c.loop-pass.started.items
    c.loop-child.yielded c.captures.passes.items c.loop-pass.yielded c.loop-child.ends.items f e
    c.loop-pass.invariant.0 c.loop-pass.invariant.1 c.loop-child.invariant
