-- blanks_end: the blanks end at the first other byte, or at the end.
use Rattle.std.proofs.Common.{◌≡◌, length, sym, ◌∙◌, arith, true≢false, subst, ℕ, get_or, false}
use Rattle.cj_yaml.specs.OnLines.{is_blank}
use Rattle.cj_yaml.proofs.Leading.{leading_ends, leading_more, leading_stops}
use Rattle.cj_yaml.proofs.chars.blanks_end.Goals as goal

pub returns-then-not-is_blank-clause-blanks : goal.returns-then-not-is_blank-clause-blanks
returns-then-not-is_blank-clause-blanks c = λ inside.
    leading_stops is_blank c.args.text.now c.loop-at.at _ c.loop-at-test.true (c.loop-at.invariant.blanks inside)
    (sym c.is_blank.ensures ∙ c.if-not-is_blank.true)

pub returns-clause-blanks : goal.returns-clause-blanks
returns-clause-blanks c = λ inside.
    let ends =
    leading_ends is_blank c.args.text.now c.loop-at.at _ c.loop-at-test.false (c.loop-at.invariant.blanks inside) in
    let same : length c.args.text.now ≡ c.loop-at.at = omega (arith, c.loop-at.auto.at-end inside) in same ∙ ends

pub loop-at-preserved : goal.loop-at-preserved
loop-at-preserved c =
    record {
      none = λ inside stop.
          let same = c.loop-at.invariant.none inside stop in
          let here : is_blank (get_or c.args.text.now c.loop-at.at 0) ≡ false =
          subst (λ (n : ℕ). is_blank (get_or c.args.text.now n 0) ≡ false) (sym same) stop in
          absurd (true≢false (sym c.if-not-is_blank.false ∙ c.is_blank.ensures ∙ here));
      blanks = λ inside.
          leading_more is_blank c.args.text.now c.loop-at.at _ c.loop-at-test.true
          (c.loop-at.invariant.blanks inside) (sym c.is_blank.ensures ∙ c.if-not-is_blank.false);
    }
