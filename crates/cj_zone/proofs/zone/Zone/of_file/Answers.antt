-- Zone::of_file: its clause clock, by the tables that were read.
use Rattle.std.proofs.lemmas.Result.{IfOk-weaker}
use Rattle.cj_zone.specs.declared.rules.Rules.TheVariants as Clock
use Rattle.cj_zone.proofs.zone.Zone.of_file.Goals as goal

pub returns-clause-clock : goal.returns-clause-clock
returns-clause-clock c = IfOk-weaker c.new-3.result _ _ (λ _ _. record {
  rules = Clock.Table c.in_ok-tables.tables;
  clock = c.in_ok-tables.ensures.ok;
}) c.new-3.ensures.ok
