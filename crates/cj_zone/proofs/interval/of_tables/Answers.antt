-- of_tables in interval: its clause is_one_of before the last transition, where the offset stays.
use Rattle.std.proofs.Common.{inl, inr, sym, ◌∙◌, arith, ap}
use Rattle.std.proofs.lemmas.Bool.{cases_lt}
use Rattle.jiff_core.proofs.SignedLemmas.{signed_arith}
use Rattle.jiff_core.specs.declared.Offset.{Offset}
use Rattle.cj_zone.proofs.TablesLemmas.{count_same, offset_stays}
use Rattle.cj_zone.proofs.IntervalLemmas.{from_bits}
use Rattle.cj_zone.proofs.interval.of_tables.Goals as goal

pub returns-clause-is_one_of : goal.returns-clause-is_one_of
returns-clause-is_one_of c = λ t above within.
    let before = c.last_before_next.ensures.before in
    let some = c.is_past.ensures.not_past c.if-is_past.false in
    let stays = offset_stays c.args.tables.now c.args.at t some in
    rw (from_bits c.offset_of-offset.result c.offset_of-offset.ensures.in_range)
    (inl (ap (λ (o : Offset). o.seconds) (elim (cases_lt t c.args.at) [
      | inl early ↦ stays (c.first_since_change.ensures.same t above (omega arith))
      | inr late ↦ stays (count_same c.args.tables.now c.args.at t some late (omega (arith, signed_arith)))
    ]) ∙ sym c.offset_of-offset.ensures.value))
