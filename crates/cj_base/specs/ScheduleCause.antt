-- The printed name of each cause for which a schedule is refused.
use Rattle.std.specs.Prelude.{ℕ, List, codes}
use Rattle.cj_base.specs.declared.schedule_fault.ScheduleCause.{ScheduleCause}
use Rattle.cj_base.specs.declared.schedule_fault.ScheduleCause.TheVariants as Of

-- rule: printed-words
abbrev pub cause_name : ScheduleCause → List ℕ
cause_name Of.Length = codes "Length"
cause_name Of.Empty = codes "Empty"
cause_name Of.Zone = codes "Zone"
cause_name Of.Macro = codes "Macro"
cause_name Of.Fields = codes "Fields"
cause_name Of.Syntax = codes "Syntax"
cause_name Of.Range = codes "Range"
cause_name Of.Order = codes "Order"
cause_name Of.Step = codes "Step"
