-- times_before: its clause ok, where nothing is due and after the last time, and its loop's invariant.
use Rattle.std.proofs.Common.{suc, ◌<◌, refl, arith, ℕ, ◌≡◌, ◌-◌, ◌+◌}
use Rattle.cj_answers.proofs.PreviousLemmas.{recedes_one, recedes_none, recedes_done}
use Rattle.cj_answers.proofs.previous_times.times_before.Goals as goal

-- so many to come are one and the rest
one_less : (n i : ℕ) → i < n → n - i ≡ suc (n - (i + 1))
one_less n i h = omega arith

pub returns-in-None-clause-ok : goal.returns-in-None-clause-ok
returns-in-None-clause-ok c =
    recedes_none _ _ _ _ c.loop.at _ _ _ (one_less c.args.count c.loop.counter c.loop-test.true)
    c.loop.invariant (c.in-None.ensures.none refl)

pub loop-preserved : goal.loop-preserved
loop-preserved c =
    let longer = recedes_one _ _ _ _ c.loop.at _ _ c.in-Some.t _
    (one_less c.args.count c.loop.counter c.loop-test.true) c.loop.invariant c.in-Some.ensures.some in
    rw c.in_ok-push_time-in-Some.ensures.ok longer

pub returns-clause-ok : goal.returns-clause-ok
returns-clause-ok c = recedes_done _ _ _ _ c.loop.at (c.args.count - c.loop.counter) _
    (omega (arith, c.loop-test.false)) c.loop.invariant
