-- script_of: its clause refused, where its zones are refused, and where told_of refuses the value under them.
use Rattle.std.proofs.Common.{List, subst}
use Rattle.serde_json.specs.View.{view}
use Rattle.cj_zone.specs.Table.{zones_of}
use Rattle.cj_zone.specs.declared.zone.Zone.{Zone}
use Rattle.cj_scenario.specs.Scenes.{AreZones, Refuses}
use Rattle.cj_script.specs.Scripts.{IsRefusedValue}
use Rattle.cj_script.proofs.Drafted.{moved}
use Rattle.cj_script.proofs.Never.{refused_under, refused_zones}
use Rattle.cj_script.proofs.read.script_of.Goals as goal

pub returns-in_err-limits-clause-refused : goal.returns-in_err-limits-clause-refused
returns-in_err-limits-clause-refused c =
    let zones = zones_of c.in_ok-zones.zones in
    moved c.from_residual-in_err-limits.result c.in_err-limits.field-0.0
    (IsRefusedValue c.args.given (view c.args.value.now))
    c.from_residual-in_err-limits.ensures.1
    (refused_under c.args.given (view c.args.value.now) zones c.in_err-limits.field-0.0
    (subst (λ o. AreZones c.args.given o zones) c.present.ensures c.in_ok-zones.ensures.ok) c.in_err-limits.ensures.err)

pub returns-in_err-zones-clause-refused : goal.returns-in_err-zones-clause-refused
returns-in_err-zones-clause-refused c =
    moved c.from_residual.result c.in_err-zones.field-0.0
    (IsRefusedValue c.args.given (view c.args.value.now)) c.from_residual.ensures.1
    (refused_zones c.args.given (view c.args.value.now) c.in_err-zones.field-0.0
    (subst (λ o. Refuses c.in_err-zones.field-0.0 ((zones : List Zone) → AreZones c.args.given o zones → ⊥))
    c.present.ensures c.in_err-zones.ensures.refused))
