-- A text that is no schedule has one fault: a fault of the whole text comes before those of the
-- fields.
use Rattle.std.specs.Prelude.{◌≡◌, ◌⊎◌, ℕ, List, Some}
use Rattle.cj_base.specs.declared.schedule_fault.ScheduleCause.{ScheduleCause}
use Rattle.cj_base.specs.declared.schedule_fault.ScheduleFault.{ScheduleFault}
use Rattle.cj_schedule.specs.Faults.{IsTextFault, HasFieldFault}
use Rattle.cj_schedule.specs.Grammar.{IsSchedule}
use Rattle.cj_schedule.specs.Matches.{Sets}
use Rattle.cj_schedule.specs.Reading.{fault_of}

-- the text as a whole has no fault
abbrev pub IsWhole : List ℕ → Type 0
IsWhole text = (cause : ScheduleCause) → IsTextFault text cause → ⊥

-- a text's fault: of the whole text, at field 0 and byte 0; where it has none, of the first faulty
-- field
-- rule: one-fault
abbrev pub IsFaultOf : List ℕ → ScheduleFault → Type 0
IsFaultOf text fault =
    ((fault.field ≡ 0) × (fault.byte ≡ 0) × IsTextFault text fault.cause)
    ⊎ (IsWhole text × HasFieldFault text fault)

-- no text has two faults
-- rule: one-fault
abbrev pub NoTwoFaults : Type 0
NoTwoFaults = (text : List ℕ) (a b : ScheduleFault) → IsFaultOf text a → IsFaultOf text b → a ≡ b

-- a text that has a fault is no schedule
-- rule: one-fault
abbrev pub FaultyIsNoSchedule : Type 0
FaultyIsNoSchedule = (text : List ℕ) (fault : ScheduleFault) → IsFaultOf text fault → (s : Sets)
    → IsSchedule text s → ⊥

-- the fault by which a text is refused is one that it has
-- rule: one-fault
abbrev pub ToldIsFault : Type 0
ToldIsFault = (text : List ℕ) (fault : ScheduleFault) → fault_of text ≡ Some fault
    → IsFaultOf text fault
