-- The sentence for a fault that a call told.
use Rattle.std.specs.Prelude.{◌≡◌, ◌⊎◌, ℕ, ◌<◌, List, ◌++◌, codes}
use Rattle.std.specs.Str.{IsUtf8}
use Rattle.cj_base.specs.declared.schedule_fault.ScheduleFault.{ScheduleFault}
use Rattle.cj_explain.specs.Schedules.{IsExplained}
use Rattle.cj_c.specs.declared.fault.CronFault.{CronFault}
use Rattle.cj_c.specs.Faults.{fault_told}
use Rattle.cj_c.specs.Status.{done, memory, none}
use Rattle.cj_c.specs.answers.Buffers.{IsGiven, IsUnchanged}

-- what `--explain` says of the fault of this schedule, without the end of the line
-- rule: library-fault-text
pub record IsFaultText (schedule : List ℕ) (told : CronFault) (text : List ℕ) : Type 0 where
  pub fault : ScheduleFault
  pub is : told ≡ fault_told fault
  pub explained : IsExplained schedule fault (text ++ codes "\n")

-- it is no fault of a schedule's fields, by its field or by its cause
abbrev pub IsNoneOf : CronFault → Type 0
IsNoneOf told = (5 < told.field) ⊎ ((told.cause < 1) ⊎ (9 < told.cause))

-- there is no sentence: the schedule isn't UTF-8, or it is no such fault
-- rule: library-fault-text
abbrev pub HasNoFaultText : List ℕ → CronFault → Type 0
HasNoFaultText schedule told = ¬ (IsUtf8 schedule) ⊎ IsNoneOf told

-- what the call leaves: the sentence, as far as the buffer has room; or there is none, or no
-- memory, and all stays as it was
-- rule: library-fault-text
abbrev pub IsFaultTextAnswered : List ℕ → CronFault → List ℕ → List ℕ → ℕ → ℕ → ℕ → Type 0
IsFaultTextAnswered schedule told old new was is status =
    ((text : List ℕ) × IsFaultText schedule told text × IsGiven text done old new is status)
    ⊎ (((status ≡ none) × HasNoFaultText schedule told × IsUnchanged old new was is)
    ⊎ ((status ≡ memory) × IsUnchanged old new was is))
