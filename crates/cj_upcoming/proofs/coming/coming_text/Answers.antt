-- coming_text: its clause ok, at the end and where nothing is due any more, and its loop.
use Rattle.std.proofs.Common.{suc, ◌<◌, refl, arith, ℕ, ◌≡◌, ◌-◌, ◌+◌}
use Rattle.cj_upcoming.proofs.NextLemmas.{continues_time, continues_none, continues_done}
use Rattle.cj_upcoming.proofs.coming.coming_text.Goals as goal

-- so many times to come are one and the rest
one_less : (n i : ℕ) → i < n → n - i ≡ suc (n - (i + 1))
one_less n i h = omega arith

pub returns-in-None-clause-ok : goal.returns-in-None-clause-ok
returns-in-None-clause-ok c =
    continues_none _ _ _ _ c.loop.at _ _ _ _ (one_less c.args.count c.loop.counter c.loop-test.true) c.loop.invariant
    (c.in-None.ensures.none refl) c.in_ok-push_str-in-None.ensures.bytes

pub loop-preserved : goal.loop-preserved
loop-preserved c =
    continues_time _ _ _ _ c.loop.at _ _ c.in-Some.t _ _ (one_less c.args.count c.loop.counter c.loop-test.true)
    c.loop.invariant c.in-Some.ensures.some c.in_ok-push_step-in-Some.ensures.ok

pub returns-clause-ok : goal.returns-clause-ok
returns-clause-ok c =
    continues_done _ _ _ _ c.loop.at (c.args.count - c.loop.counter) _
    (omega (arith, c.loop-test.false)) c.loop.invariant
