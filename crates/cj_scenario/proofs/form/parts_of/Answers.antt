-- parts_of: its clause refused where the zones are refused, as no form has any then.
use Rattle.std.proofs.Common.{subst, sym}
use Rattle.cj_scenario.specs.Scenes.{AreZones}
use Rattle.cj_scenario.proofs.Items.{handed_on}
use Rattle.cj_scenario.proofs.form.parts_of.Goals as goal

pub returns-in_err-zones-clause-refused : goal.returns-in_err-zones-clause-refused
returns-in_err-zones-clause-refused c =
    handed_on c.from_residual-in_err-zones.result c.in_err-zones.field-0.0 _ _
    (λ none f formed. none f.zones
    (subst (λ o. AreZones c.args.given o f.zones) (sym c.present-3.ensures) formed.zones))
    c.from_residual-in_err-zones.ensures.1 c.in_err-zones.ensures.refused
