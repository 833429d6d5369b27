-- What is said of a field of a manifest that is refused.
use Rattle.std.specs.Prelude.{◌≡◌, ℕ, ◌==◌, List, [], ◌∷◌, ◌++◌, Option, Some, codes, if◌then◌else◌}
use Rattle.cj_base.specs.Field.{path_of}
use Rattle.cj_base.specs.declared.cause.Cause.{Cause}
use Rattle.cj_base.specs.declared.cause.Cause.TheVariants as Why
use Rattle.cj_base.specs.declared.field.Field.{Field}
use Rattle.cj_base.specs.declared.faults.FieldFault.{FieldFault}
use Rattle.cj_base.specs.declared.schedule_fault.ScheduleFault.{ScheduleFault}
use Rattle.cj_explain.specs.Fields.{choices, form, most, need, numbers, text_form}
use Rattle.cj_explain.specs.Schedules.{IsWords, cause_words, placed}

-- of a schedule, whose element isn't shown
abbrev pub schedule_words : ScheduleFault → List ℕ
schedule_words f =
    if f.field == 0 then cause_words f.field f.cause
    else placed f (cause_words f.field f.cause)

abbrev pub wanted : List ℕ → List ℕ
wanted what = codes "want " ++ what

abbrev pub missing : List ℕ → List ℕ
missing what = codes "missing, want " ++ what

-- what is wrong, and what is wanted
-- rule: explain-field
abbrev pub cause_of : Field → Cause → List ℕ
cause_of field Why.Required = missing (need field)
cause_of field Why.WrongType = wanted (form field)
cause_of field Why.NotSupported = wanted (choices field)
cause_of field Why.Fraction = wanted (codes
    "numbers without a fraction, of 64 bits; any other as a text, like \"0.5\"")
cause_of field Why.TooLong = wanted (most field)
cause_of field Why.Format = wanted (text_form field)
cause_of field Why.Range = wanted (numbers field)
cause_of field Why.Zone = wanted (codes "a zone that is known: UTC, one of --zone NAME=RULE, or one with a file in the folder of --zoneinfo, as /usr/share/zoneinfo")
cause_of field Why.NotAllowed = codes "may not stand here"
cause_of field (Why.Schedule f) = schedule_words f

-- `PATH: WORDS`, on a line of its own
-- rule: explain-field
abbrev pub fault_words : FieldFault → List ℕ
fault_words f = path_of f.field ++ (codes ": " ++ (cause_of f.field f.cause ++ codes "\n"))

-- ---- with the text of the schedule at hand

-- what is wrong with the text, and with which of its elements
-- rule: explain-field
pub record IsScheduleLine (text : List ℕ) (field : Field) (f : ScheduleFault) (line : List ℕ)
    : Type 0 where
  pub words : List ℕ
  pub are : IsWords text f words
  pub is : line ≡ path_of field ++ (codes ": " ++ (words ++ codes "\n"))

-- the line of a fault, where the text of the schedule may be at hand
abbrev pub IsFaultLineBy : Option (List ℕ) → FieldFault → Cause → List ℕ → Type 0
IsFaultLineBy (Some text) fault (Why.Schedule f) line = IsScheduleLine text fault.field f line
IsFaultLineBy text fault cause line = line ≡ fault_words fault

-- rule: explain-field
abbrev pub IsFaultLine : Option (List ℕ) → FieldFault → List ℕ → Type 0
IsFaultLine text fault line = IsFaultLineBy text fault fault.cause line

-- a line for each
-- rule: explain-field
abbrev pub AreFaultLines : Option (List ℕ) → List FieldFault → List ℕ → Type 0
AreFaultLines text [] lines = lines ≡ []
AreFaultLines text (f ∷ fs) lines =
    (line : List ℕ) × (rest : List ℕ) × IsFaultLine text f line × AreFaultLines text fs rest
    × (lines ≡ line ++ rest)
