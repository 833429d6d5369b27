-- add_rules: its clause refused, where a rule is refused.
use Rattle.cj_zone.specs.Table.{zones_of}
use Rattle.cj_io.proofs.ZoneFilesLemmas.Rules.{handed_on, rule_refused}
use Rattle.cj_io.proofs.zone_files.table.add_rules.Goals as goal

pub returns-in_err-add_rule-clause-refused : goal.returns-in_err-add_rule-clause-refused
returns-in_err-add_rule-clause-refused c =
    handed_on c.from_residual.result c.in_err-add_rule.field-0.0 _ _
    (rule_refused (zones_of c.args.table.now) c.args.rules.now c.loop-rule.rule-index _ (zones_of c.loop-rule.table)
    c.loop-rule-test.true c.loop-rule.invariant.leads)
    c.from_residual.ensures.1 c.in_err-add_rule.ensures.refused
