-- spaces_end: the spaces end at the first other byte, or at the end.
use Rattle.std.proofs.Common.{◌≡◌, length, ◌∙◌, arith, eq-eqb}
use Rattle.std.proofs.lemmas.Bool.{ne_eqb}
use Rattle.cj_yaml.specs.Cursors.{is_space}
use Rattle.cj_yaml.proofs.Leading.{leading_ends, leading_more, leading_stops}
use Rattle.cj_yaml.proofs.chars.spaces_end.Goals as goal

pub returns-then-text-at-ne32 : goal.returns-then-text-at-ne32
returns-then-text-at-ne32 c = λ inside.
    leading_stops is_space c.args.text.now c.loop-at.at _ (omega arith) (c.loop-at.invariant inside)
    (ne_eqb _ 32 c.if-text-at-ne32.true)

pub loop-at-preserved : goal.loop-at-preserved
loop-at-preserved c = λ inside.
    leading_more is_space c.args.text.now c.loop-at.at _ (omega arith) (c.loop-at.invariant inside)
    (eq-eqb _ 32 c.if-text-at-ne32.false)

pub returns : goal.returns
returns c = λ inside.
    let ends = leading_ends is_space c.args.text.now c.loop-at.at _ (omega arith) (c.loop-at.invariant inside) in
    let same : length c.args.text.now ≡ c.loop-at.at = omega arith in same ∙ ends
