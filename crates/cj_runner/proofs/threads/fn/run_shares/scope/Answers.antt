-- The scope of run_shares: its clause, and the invariants of its two loops.
use Rattle.std.proofs.Common.{◌≡◌, ap, ◌∙◌}
use Rattle.cj_runner.proofs.Wholes.{all_yielded, come_all, comes_none, comes_some, if_ok, zip_pushed}
use Rattle.cj_runner.proofs.threads.fn.run_shares.scope.Goals as goal

pub loop-share-preserved : goal.loop-share-preserved
loop-share-preserved g c =
    zip_pushed _ c.loop-share.yielded c.loop-share.started.items _ c.in-Some.share c.ok.result
    c.in_ok-push.ensures.items c.loop-share.invariant
    (if_ok c.spawn_with-child.result c.ok.result _ _ c.ok.ensures.value c.spawn_with-child.ensures.ok
    (λ h is. (ap (λ p. p.share.value) is ∙ c.of.ensures, ap (λ p. p.now) is)))

pub loop-child-preserved-in-Continue-branch-4 : goal.loop-child-preserved-in-Continue-branch-4
loop-child-preserved-in-Continue-branch-4 g c =
    zip_pushed _ c.loop-child.yielded c.loop-child.ends.items _ c.in-Some-child.child _
    c.in_ok-push-in-Some-child-2.ensures.items c.loop-child.invariant
    (comes_some (λ h. h.promise.share.value) (λ h. h.promise.now) c.in-Some-child.child c.in-Some-child-2.child
    c.join.result c.in-Some-child-2.is c.join.ensures)

pub loop-child-preserved : goal.loop-child-preserved
loop-child-preserved g c =
    zip_pushed _ c.loop-child.yielded c.loop-child.ends.items _ c.in-Some-child.child _
    c.in_ok-push-in-None-child-2.ensures.items c.loop-child.invariant
    (comes_none (λ h. h.promise.share.value) (λ h. h.promise.now) c.in-Some-child.child c.in-None-child-2.is)

pub returns : goal.returns
returns g c =
    let given = c.into_iter-share-iterator.ensures.into_iter_gives in
    let e : c.loop-share.yielded ≡ c.captures.shares.items =
    all_yielded c.captures.shares c.loop-share.yielded _ _ c.next.new.self given.0 given.1 c.loop-share.yielded_by
    c.in-None.ensures.steps in
    let begun = c.into_iter-child-iterator.ensures.into_iter_gives in
    let f : c.loop-child.yielded ≡ c.loop-share.started.items =
    all_yielded c.loop-share.started c.loop-child.yielded _ _ c.next-in-loop-child.new.self begun.0 begun.1
    c.loop-child.yielded_by c.in-None-child.ensures.steps in
    come_all (λ h. h.promise.share.value) (λ h. h.promise.now) c.captures.now _ _ _ _ _ e f c.loop-share.invariant
    c.loop-child.invariant
