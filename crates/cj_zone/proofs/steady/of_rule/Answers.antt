-- of_rule in steady: its clause steady, where no change is found and up to one that is.
use Rattle.std.proofs.Common.{◌∙◌, refl, subst, arith, pos, ◌*ℤ◌, ◌<ℤ◌}
use Rattle.jiff_core.proofs.SignedLemmas.{signed_arith}
use Rattle.jiff_tz.specs.PosixRule.{transition_view}
use Rattle.jiff.specs.ZoneView.{plain_transition}
use Rattle.cj_zone.proofs.SteadyLemmas.{rule_steady, second_before, steady_here, next_of}
use Rattle.cj_zone.proofs.steady.of_rule.Goals as goal

pub returns-in_default-clause-steady : goal.returns-in_default-clause-steady
returns-in_default-clause-steady c = steady_here _ _ _ c.get.ensures.value

pub returns-clause-steady : goal.returns-clause-steady
returns-clause-steady c = record {
  same = λ t above within.
      let before = second_before c.as_second-second.result c.timestamp-2.result.nanosecond c.args.at
      c.get-2.result t c.as_second-second.ensures c.timestamp-2.result.in_range c.get-2.ensures.value
      c.get-2.ensures.in_range c.if-second-get.false (omega (arith, c.min.ensures)) in
      rule_steady c.args.rule (pos c.args.at *ℤ pos 1_000_000_000) (pos t *ℤ pos 1_000_000_000)
      (transition_view (plain_transition c.in-Some.change)) (omega (arith, signed_arith))
      (subst (λ i. (pos t *ℤ pos 1_000_000_000) <ℤ i.nanosecond) c.timestamp-2.ensures before)
      ((c.end_of_month.ensures.year t above (omega arith)).same)
      (next_of c.next.result c.args.rule (pos c.args.at *ℤ pos 1_000_000_000) _ _ c.in-Some.change c.next.ensures.steps
      (c.following.ensures ∙ rw (c.from_plain-zone.ensures, c.from_plain-instant.ensures, c.timestamp.ensures) refl)
      c.in-Some.is);
}
