-- The form of what is printed, and by which clock its times are.
use Rattle.std.specs.Prelude.{◌≡◌, ◌⊎◌, ℕ, Bool, false, true, ◌&&◌, List, [], ◌∷◌, ◌++◌, Option, None, Some, Result, Ok, Err, codes}
use Rattle.std.specs.Borrow.{Bor}
use Rattle.serde_json.specs.Data.{Data, string, object, member, no_members}
use Rattle.serde_json.specs.Read.{read}
use Rattle.cj_yaml.specs.BlockStyle.{IsBlock}
use Rattle.cj_yaml.specs.ReadOf.{IsReadOf}
use Rattle.cj_zone.specs.declared.zone.Zone.{Zone}
use Rattle.cj_io.specs.declared.zone_files.file.ZoneFile.{ZoneFile}
use Rattle.cj_answers.specs.Clocked.{IsByClock}
use Rattle.cj_answers.specs.Zoning.{IsNoZoneFor, IsZoneFor}
use Rattle.cj_answers.specs.Outcome.{Outcome, explained, outcome_of, refusal}
use Rattle.cj_answers.specs.declared.answer.Answer.{Answer}
use Rattle.cj_io.specs.declared.failure.Failure.{Failure}
use Rattle.cj_answers.specs.as_json.Forms.{IsJsonLine, is_json, is_yaml}
use Rattle.cj_answers.specs.declared.answer.Ending.{Ending}
use Rattle.cj_answers.specs.declared.answer.Ending.TheVariants.{Done, Refused}

-- where a text is JSON, its value is printed in YAML, in block style, and that is read as the value
-- again; of other texts nothing is said: a picture stays, and of several values on lines each
-- is a document
-- rule: output-yaml
abbrev pub IsYaml : List ℕ → List ℕ → Type 0
IsYaml json text = (d : Data) → read json ≡ Some d → IsBlock d text × IsReadOf text (d ∷ [])

-- rule: output-yaml
abbrev pub IsPrintedAs : Bool → List ℕ → List ℕ → Type 0
IsPrintedAs false json text = text ≡ json
IsPrintedAs true json text = IsYaml json text

abbrev pub is_refused : Ending → Bool
is_refused Refused = true
is_refused Done = false

abbrev pub is_nothing : List ℕ → Bool
is_nothing [] = true
is_nothing (c ∷ text) = false

-- one value is wanted, and a refusal prints none
-- rule: output-refused
abbrev pub tells_refusal : List ℕ → Ending → List ℕ → Bool
tells_refusal output ending printed = is_json output && (is_refused ending && is_nothing printed)

-- rule: output-refused
abbrev pub refusal_data : List ℕ → Data
refusal_data line = object (member (codes "refused") (string line) no_members)

-- what is said, without the end of its last line, as a value on a line
-- rule: output-refused
pub record IsRefusalText (said text : List ℕ) : Type 0 where
  pub line : List ℕ
  pub is : (said ≡ line ++ codes "\n") ⊎ (said ≡ line)
  pub printed : IsJsonLine (refusal_data line) text

-- what is printed before it gets its form
-- rule: output-refused
abbrev pub IsValued : Bool → List ℕ → List ℕ → List ℕ → Type 0
IsValued true printed said text = IsRefusalText said text
IsValued false printed said text = text ≡ printed

-- the outcome o is shown as o'
-- rule: output-refused
pub record IsInForm (output : List ℕ) (o o' : Outcome) : Type 0 where
  pub ending : o'.ending ≡ o.ending
  pub value : List ℕ
  pub valued : IsValued (tells_refusal output o.ending o.printed) o.printed o.said value
  pub printed : IsPrintedAs (is_yaml output) value o'.printed
  pub said : o'.said ≡ o.said

-- an answer is shown as o, and a failure isn't
-- rules: output-refused, output-yaml
abbrev pub IsFormed : List ℕ → Result Answer Failure → Outcome → Type 0
IsFormed output (Ok a) o = IsInForm output (outcome_of a) o
IsFormed output (Err e) o = ⊥

-- an outcome in the form that the words ask for
-- rules: output-refused, output-yaml
pub record InForm (output : List ℕ) (Is : Outcome → Type 0) (o : Outcome) : Type 0 where
  pub made : Outcome
  pub is : Is made
  pub shown : IsInForm output made o

-- ---- times by a zone's clock

-- what the zone of a clock has to be
-- rules: explain, local-times
abbrev pub clock_words : List ℕ
clock_words =
    codes "--time-zone: want UTC, the name of a zone, a POSIX rule like CET-1CEST,M3.5.0,M10.5.0/3, or NAME=RULE\n"

-- both texts of the outcome o' are those of o by the zone's clock
-- rule: local-times
pub record IsTimed (zone : Zone) (o o' : Outcome) : Type 0 where
  pub ending : o'.ending ≡ o.ending
  pub printed : IsByClock zone o.printed o'.printed
  pub said : IsByClock zone o.said o'.said

-- where one value is wanted, it stays as it is
-- rule: local-times
abbrev pub IsShownBy : Bool → Zone → Outcome → Outcome → Type 0
IsShownBy true zone o o' = o' ≡ o
IsShownBy false zone o o' = IsTimed zone o o'

-- there is no such zone, which is refused, whatever the outcome was
-- rule: local-times
pub record RefusesClock (explain : Bool) (word : Option (Bor (List ℕ))) (files : List ZoneFile)
    (o : Outcome) : Type 0 where
  pub none : IsNoZoneFor None word files
  pub answer : o ≡ explained explain clock_words (refusal (codes "cronsim: zone\n"))

-- the outcome o is shown as o' by the clock of the zone of that word
-- rule: local-times
pub record ShowsClock (output : List ℕ) (word : Option (Bor (List ℕ))) (files : List ZoneFile)
    (o o' : Outcome) : Type 0 where
  pub zone : Zone
  pub is_zone : IsZoneFor None word files zone
  pub shown : IsShownBy (is_json output) zone o o'

abbrev pub IsInZone : List ℕ → Bool → Option (Bor (List ℕ)) → List ZoneFile → Outcome → Outcome
    → Type 0
IsInZone output explain word files o o' =
    RefusesClock explain word files o' ⊎ ShowsClock output word files o o'

-- without a zone all is as it was
-- rule: local-times
abbrev pub IsZoned : List ℕ → Bool → Option (Bor (List ℕ)) → List ZoneFile → Outcome → Outcome
    → Type 0
IsZoned output explain None files o o' = o' ≡ o
IsZoned output explain (Some word) files o o' = IsInZone output explain (Some word) files o o'

-- the outcome o is shown as o', by the clock and in the form that the words ask for
-- rules: local-times, output-refused, output-yaml
pub record IsInFormBy (output : List ℕ) (explain : Bool) (word : Option (Bor (List ℕ)))
    (files : List ZoneFile) (o o' : Outcome) : Type 0 where
  pub timed : Outcome
  pub clock : IsZoned output explain word files o timed
  pub shown : IsInForm output timed o'

abbrev pub IsFormedBy : List ℕ → Bool → Option (Bor (List ℕ)) → List ZoneFile
    → Result Answer Failure → Outcome → Type 0
IsFormedBy output explain word files (Ok a) o =
    IsInFormBy output explain word files (outcome_of a) o
IsFormedBy output explain word files (Err e) o = ⊥

-- an outcome by the clock and in the form that the words ask for
-- rules: local-times, output-refused, output-yaml
pub record InFormBy (output : List ℕ) (explain : Bool) (word : Option (Bor (List ℕ)))
    (files : List ZoneFile) (Is : Outcome → Type 0) (o : Outcome) : Type 0 where
  pub made : Outcome
  pub is : Is made
  pub shown : IsInFormBy output explain word files made o
