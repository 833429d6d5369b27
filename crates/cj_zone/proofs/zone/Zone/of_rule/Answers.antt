-- Zone::of_rule: its clause clock, by the rule that jiff read.
use Rattle.std.proofs.lemmas.Result.{IfOk-weaker}
use Rattle.cj_zone.specs.declared.rules.Rules.TheVariants as Clock
use Rattle.cj_zone.proofs.zone.Zone.of_rule.Goals as goal

pub returns-clause-clock : goal.returns-clause-clock
returns-clause-clock c = IfOk-weaker c.new-3.result _ _ (λ _ _. record {
  rules = Clock.Posix c.in-Some.clock;
  clock = c.in-Some.ensures.some;
}) c.new-3.ensures.ok
