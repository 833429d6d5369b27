-- add_rule: its clause ok, and its clause refused where the table refuses the name or the rule.
use Rattle.std.proofs.Common.{◌≡◌, List, refl, inl, inr}
use Rattle.cj_base.specs.declared.refusal.Refusal.{Refusal}
use Rattle.cj_base.specs.declared.refusal.Refusal.TheVariants.{Invalid}
use Rattle.cj_base.specs.declared.faults.FieldFault.{FieldFault}
use Rattle.cj_zone.specs.Refused.{IsZoneRefusal}
use Rattle.cj_zone.specs.Table.{zones_of}
use Rattle.cj_scenario.proofs.Names.{no_rule}
use Rattle.cj_scenario.proofs.zones.add_rule.Goals as goal

pub returns-in-Ok-clause-ok : goal.returns-in-Ok-clause-ok
returns-in-Ok-clause-ok c =
    let a = c.in-Ok.ensures.added in
    record {
      zone = a.zone;
      more_are = a.zones;
      free = a.free;
      name_is = a.name_is;
      source_is = a.source_is;
      clock = a.clock;
    }

-- a refusal by its faults has a reason
reason : (e : Refusal) (faults : List FieldFault) (Reason : Type 0) → e ≡ Invalid faults → IsZoneRefusal e Reason
    → Reason
reason e faults Reason is (inl memory) = absurd (cc (is, memory))
reason e faults Reason is (inr (refused, why)) = why

pub returns-in-Err-Invalid-clause-refused : goal.returns-in-Err-Invalid-clause-refused
returns-in-Err-Invalid-clause-refused c =
    let why = reason c.in-Err-Invalid.field-0 _ _ c.in-Err-Invalid.field-0-is c.in-Err-Invalid.ensures.refused in
    inr (
      refl,
      λ others more names adds. no_rule (zones_of c.args.table.now) others more c.args.name.now c.args.rule.now
          names why adds,
    )
