-- cronsim_open_rule: its ensures, by the kind of its zone.
use Rattle.cj_c.specs.Opening.{HasNoRuleZone, IsRuleZone}
use Rattle.cj_c.proofs.Openings.{opened_as}
use Rattle.cj_c.proofs.opening.cronsim_open_rule.Goals as goal

pub returns : goal.returns
returns c = opened_as _ (IsRuleZone c.args.rule.now)
    (HasNoRuleZone c.args.rule.now) c.of_rule.result _ _ _ _ _ c.of_rule.ensures.ok c.of_rule.ensures.err c.open.ensures
