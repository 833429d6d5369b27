-- What steps and the report print through a buffer.
use Rattle.std.specs.Prelude.{◌≡◌, ◌⊎◌, ℕ, Bool, List, [], ◌++◌, Option}
use Rattle.std.specs.Io.KnownBytes.{Appends}
use Rattle.cj_types.specs.WorldLimits.{Kept}
use Rattle.cj_zone.specs.declared.table.ZoneTable.{ZoneTable}
use Rattle.cj_calls.specs.Rows.{Told}
use Rattle.cj_io.specs.Writing.{AppendsSome, HasPrinted, Prints}
use Rattle.cj_report.specs.Reports.{report_of}
use Rattle.cj_script.specs.declared.step.Step.{Step}
use Rattle.cj_replay.specs.Runs.{MakesAll, MakesStep}

-- its line was printed
pub record PrintsStep (zones : ZoneTable) (limits : Kept) (h : List Told) (step : Step)
    (full : Bool) (h' : List Told) (old : Option (List ℕ)) (waited : List ℕ) (new : Option (List ℕ))
    (waits : List ℕ) : Type 0 where
  pub line : List ℕ
  pub makes : MakesStep zones limits h step line full h'
  pub printed : Prints old waited line new waits

-- the step's line, or nothing where there was no memory for it
abbrev pub IsLine : ZoneTable → Kept → List Told → Step → List ℕ → Type 0
IsLine zones limits h step line = (line ≡ [])
    ⊎ ((full : Bool) × (h' : List Told) × MakesStep zones limits h step line full h')

-- a beginning of what waited and its line was printed
pub record PrintsPart (zones : ZoneTable) (limits : Kept) (h : List Told) (step : Step)
    (old : Option (List ℕ)) (waited : List ℕ) (new : Option (List ℕ)) : Type 0 where
  pub line : List ℕ
  pub is_line : IsLine zones limits h step line
  pub begun : AppendsSome old new (waited ++ line)

-- all these steps were made, and since a start their lines were printed, of which an end still
-- waits
pub record HasPlayed (zones : ZoneTable) (limits : Kept) (h : List Told) (done : List Step)
    (full : Bool) (h' : List Told) (start new : Option (List ℕ)) (waits : List ℕ) : Type 0 where
  pub text : List ℕ
  pub makes : MakesAll zones limits h done text full h'
  pub printed : HasPrinted start new waits text

-- only the first of these steps were made, and of their lines a beginning was printed
pub record BreaksOff (zones : ZoneTable) (limits : Kept) (h : List Told) (steps : List Step)
    (start new : Option (List ℕ)) : Type 0 where
  pub done : List Step
  pub left : List Step
  pub are : steps ≡ done ++ left
  pub text : List ℕ
  pub full : Bool
  pub history : List Told
  pub makes : MakesAll zones limits h done text full history
  pub begun : AppendsSome start new text

-- what waited and then the report were printed
abbrev pub PrintsReport : ℕ → List Told → Option (List ℕ) → List ℕ → Option (List ℕ) → Type 0
PrintsReport window h old waited new = Appends old new (waited ++ report_of window h)

-- a beginning of both, or of what waited alone
pub record CutsReport (window : ℕ) (h : List Told) (old : Option (List ℕ)) (waited : List ℕ)
    (new : Option (List ℕ)) : Type 0 where
  pub rest : List ℕ
  pub is_rest : (rest ≡ []) ⊎ (rest ≡ report_of window h)
  pub begun : AppendsSome old new (waited ++ rest)
