-- of_rules in interval: its clause offsets, where the clock goes by a rule.
use Rattle.std.proofs.Common.{pos, ◌*ℤ◌}
use Rattle.cj_zone.proofs.IntervalLemmas.{by_rule, from_bits}
use Rattle.cj_zone.proofs.interval.of_rules.Goals as goal

pub returns-in-Posix-clause-offsets : goal.returns-in-Posix-clause-offsets
returns-in-Posix-clause-offsets c = rw (
  c.always-in-Posix.ensures.one,
  c.always-in-Posix.ensures.other,
  from_bits c.of_rule-one.result.0 c.of_rule-one.ensures.one_in,
  from_bits c.of_rule-one.result.1 c.of_rule-one.ensures.other_in,
) (record {
  one_in = c.of_rule-one.ensures.one_in;
  other_in = c.of_rule-one.ensures.other_in;
  is_one_of = λ t _ _. rw (c.in-Posix.is, c.of_rule-one.ensures.one, c.of_rule-one.ensures.other)
      (by_rule c.in-Posix.rule (pos t *ℤ pos 1_000_000_000));
})
