-- has_odd: one is found at a byte, or at none.
use Rattle.std.proofs.Common.{◌<◌, length, sym, ◌∙◌, refl, arith}
use Rattle.cj_yaml.proofs.Odd.{odd_found, odd_passed, odd_end}
use Rattle.cj_yaml.proofs.escape.has_odd.Goals as goal

pub returns-then-begins_odd : goal.returns-then-begins_odd
returns-then-begins_odd c =
    let h : c.loop-at.at < length c.args.bytes.now = omega arith in
    sym (c.loop-at.invariant
    ∙ odd_found c.args.bytes.now c.loop-at.at _ _ _ h refl c.byte.ensures c.byte-in-loop-at.ensures
    (sym c.begins_odd.ensures ∙ c.if-begins_odd.true))

pub loop-at-preserved : goal.loop-at-preserved
loop-at-preserved c =
    let h : c.loop-at.at < length c.args.bytes.now = omega arith in
    c.loop-at.invariant
    ∙ odd_passed c.args.bytes.now c.loop-at.at _ _ _ h refl c.byte.ensures c.byte-in-loop-at.ensures
    (sym c.begins_odd.ensures ∙ c.if-begins_odd.false)

pub returns : goal.returns
returns c = sym (c.loop-at.invariant ∙ odd_end c.args.bytes.now c.loop-at.at (omega arith))
