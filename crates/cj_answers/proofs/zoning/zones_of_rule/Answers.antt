-- zones_of_rule: its clause ok, that the local zone is the one made of the rule, and its clause err, since that one is
-- found.
use Rattle.std.proofs.Common.{◌≡◌, ◌∙◌, ap, sym}
use Rattle.cj_zone.specs.declared.zone.Zone.{Zone}
use Rattle.cj_zone.specs.Zones.{zone_named}
use Rattle.cj_answers.proofs.Ruled.{added_found}
use Rattle.cj_answers.proofs.zoning.zones_of_rule.Goals as goal

pub returns-clause-ok : goal.returns-clause-ok
returns-clause-ok c = λ zone is.
    let a = c.in_ok-add_rule.ensures.added in
    let b = c.in_ok-set_local.ensures.set in
    let there = ap (zone_named c.args.name.now) a.zones ∙ added_found _ a.zone c.args.name.now a.free a.name_is in
    let same : a.zone ≡ zone = cc (there, b.found, b.local, is) in
    record {
      name_is = ap (λ (z : Zone). z.name) (sym same) ∙ a.name_is;
      source = ap (λ (z : Zone). z.source) (sym same) ∙ a.source_is;
      made = a.clock;
    }
