-- of_tables in steady: its clause steady, before the last transition and by the rule after it.
use Rattle.std.proofs.Common.{ap, arith}
use Rattle.jiff_core.proofs.SignedLemmas.{signed_arith}
use Rattle.jiff_core.specs.declared.Offset.{Offset}
use Rattle.cj_zone.proofs.TablesLemmas.{count_same, offset_stays}
use Rattle.cj_zone.proofs.SteadyLemmas.{steady_along, past_is_rule}
use Rattle.cj_zone.proofs.steady.of_tables.Goals as goal

pub returns-then-not-is_past-clause-steady : goal.returns-then-not-is_past-clause-steady
returns-then-not-is_past-clause-steady c = record {
  same = λ t above within.
      let some = c.is_past.ensures.not_past c.if-not-is_past.true in
      let before = c.last_before_next.ensures.before in
      ap (λ (o : Offset). o.seconds) (offset_stays c.args.tables.now c.args.at t some
      (count_same c.args.tables.now c.args.at t some above (omega (arith, signed_arith))));
}

pub returns-in-Some-clause-steady : goal.returns-in-Some-clause-steady
returns-in-Some-clause-steady c =
    steady_along _ _ _ _ (λ t above. past_is_rule c.args.tables.now c.args.at t c.in-Some.rule
    (c.is_past.ensures.past c.if-not-is_past.false) above c.in-Some.ensures) c.of_rule.ensures.steady
    c.of_rule.ensures.low
