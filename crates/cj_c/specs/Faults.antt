-- The fault that an exported function gives for a text that is refused.
use Rattle.std.specs.Prelude.{◌≡◌, ◌⊎◌, ℕ, ◌<◌, List, length}
use Rattle.std.specs.Str.{IsUtf8}
use Rattle.cj_base.specs.declared.schedule_fault.ScheduleCause.{ScheduleCause}
use Rattle.cj_base.specs.declared.schedule_fault.ScheduleCause.TheVariants.{Length, Empty, Zone, Macro, Fields, Syntax, Range, Order, Step}
use Rattle.cj_base.specs.declared.schedule_fault.ScheduleFault.{ScheduleFault}
use Rattle.cj_schedule.specs.Faults.{IsFault}
use Rattle.cj_c.specs.declared.fault.CronFault.{CronFault}

-- rule: library-faults
abbrev pub cause_code : ScheduleCause → ℕ
cause_code Length = 1
cause_code Empty = 2
cause_code Zone = 3
cause_code Macro = 4
cause_code Fields = 5
cause_code Syntax = 6
cause_code Range = 7
cause_code Order = 8
cause_code Step = 9

-- of a zone that is refused
-- rule: library-faults
abbrev pub no_zone : ℕ
no_zone = 10

-- of a text that isn't UTF-8
-- rule: library-faults
abbrev pub no_text : ℕ
no_text = 11

-- the fault of a text as a whole
abbrev pub whole : ℕ → CronFault
whole cause = record { field = 0; cause = cause; byte = 0 }

-- the fault of a schedule, in numbers
-- rule: library-faults
abbrev pub fault_told : ScheduleFault → CronFault
fault_told f = record { field = f.field; cause = cause_code f.cause; byte = f.byte }

-- the text has a fault, which is the one given
-- rule: library-faults
abbrev pub IsFaultTold : List ℕ → CronFault → Type 0
IsFaultTold text told = (fault : ScheduleFault) × IsFault text fault × (told ≡ fault_told fault)

-- the text is too long, or isn't UTF-8, or has a fault
-- rule: library-faults
abbrev pub IsTextRefused : List ℕ → CronFault → Type 0
IsTextRefused text told =
    ((1024 < length text) × (told ≡ whole (cause_code Length)))
    ⊎ ((¬ (IsUtf8 text) × (told ≡ whole no_text)) ⊎ IsFaultTold text told)
