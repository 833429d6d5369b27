-- What `--explain` says of the faults of a manifest.
use Rattle.std.specs.Prelude.{◌≡◌, ℕ, List, codes, Option, option_and_then}
use Rattle.serde_json.specs.Data.{Data}
use Rattle.serde_json.specs.Find.{as_str}
use Rattle.cj_base.specs.declared.faults.FieldFault.{FieldFault}
use Rattle.cj_manifest.specs.Members.{present}
use Rattle.cj_manifest.specs.Reading.{Reads}
use Rattle.cj_explain.specs.Faults.{AreFaultLines}

-- the text of the schedule
abbrev pub schedule_in : Data → Option (List ℕ)
schedule_in d = option_and_then (λ spec. option_and_then as_str (present (codes "schedule") spec))
    (present (codes "spec") d)

-- what is said of the faults of these bytes: of the schedule's what `next` says of its text
-- rule: explain-field
pub record AreFaultWords (bytes : List ℕ) (faults : List FieldFault) (words : List ℕ) : Type 0 where
  pub text : Option (List ℕ)
  pub text_is : (d : Data) → Reads bytes d → text ≡ schedule_in d
  pub are : AreFaultLines text faults words
