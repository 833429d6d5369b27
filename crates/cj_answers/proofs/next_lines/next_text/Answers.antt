-- next_text: its clause ok, at the line none and after the last line, and its loop's invariant.
use Rattle.std.proofs.Common.{suc, ◌<◌, refl, arith, ℕ, ◌≡◌, ◌-◌, ◌+◌}
use Rattle.cj_answers.proofs.NextLemmas.{continues_line, continues_none, continues_done}
use Rattle.cj_answers.proofs.next_lines.next_text.Goals as goal

-- so many lines to come are one and the rest
one_less : (n i : ℕ) → i < n → n - i ≡ suc (n - (i + 1))
one_less n i h = omega arith

pub returns-in-None-clause-ok : goal.returns-in-None-clause-ok
returns-in-None-clause-ok c =
    let whole = continues_none _ _ _ _ c.loop.at _ _ _ (one_less c.args.count c.loop.counter c.loop-test.true)
    c.loop.invariant (c.in-None.ensures.none refl) in
    rw c.in_ok-push_str-in-None.ensures.bytes whole

pub loop-preserved : goal.loop-preserved
loop-preserved c =
    let longer = continues_line _ _ _ _ c.loop.at _ _ c.in-Some.t _
    (one_less c.args.count c.loop.counter c.loop-test.true) c.loop.invariant c.in-Some.ensures.some in
    rw c.in_ok-push_line-in-Some.ensures.ok longer

pub returns-clause-ok : goal.returns-clause-ok
returns-clause-ok c = continues_done _ _ _ _ c.loop.at (c.args.count - c.loop.counter) _
    (omega (arith, c.loop-test.false)) c.loop.invariant
