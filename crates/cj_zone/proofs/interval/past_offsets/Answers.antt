-- past_offsets: its clause is_one_of, where the tables have a rule and where they have none.
use Rattle.std.proofs.Common.{inl, sym, ◌∙◌, ap}
use Rattle.jiff_tz.specs.PosixText.{tz_view}
use Rattle.cj_zone.proofs.TablesLemmas.{offset_of_rule, offset_of_last}
use Rattle.cj_zone.proofs.IntervalLemmas.{from_bits}
use Rattle.cj_zone.proofs.interval.past_offsets.Goals as goal

pub returns-in-Some-clause-is_one_of : goal.returns-in-Some-clause-is_one_of
returns-in-Some-clause-is_one_of c = λ t above. rw (c.of_rule.ensures.one, c.of_rule.ensures.other)
    (offset_of_rule c.args.tables.now c.args.from t (tz_view c.in-Some.rule) c.requires above c.in-Some.ensures)

pub returns-in-None-clause-is_one_of : goal.returns-in-None-clause-is_one_of
returns-in-None-clause-is_one_of c = λ t above. rw
    (from_bits c.offset_of-offset.result c.offset_of-offset.ensures.in_range)
    (inl (ap (λ o. o.seconds) (offset_of_last c.args.tables.now c.args.from t c.requires above c.in-None.ensures)
    ∙ sym c.offset_of-offset.ensures.value))
