-- What is found in a manifest: the answer in lines and the JSON value, both of one text.
use Rattle.std.specs.Prelude.{ℕ, Bool, List}
use Rattle.serde_json.specs.Data.{Data}
use Rattle.serde_json.specs.View.{view}
use Rattle.cj_args.specs.declared.request.CheckRequest.{CheckRequest}
use Rattle.cj_zone.specs.declared.zone.Zone.{Zone}
use Rattle.cj_answers.specs.declared.answer.Answer.{Answer}
use Rattle.cj_answers.specs.Outcome.{outcome_of}
use Rattle.cj_check.specs.AsJson.{AreItemData, IsItemData, IsItemTold}
use Rattle.cj_check.specs.Check.{IsChecked}
use Rattle.cj_check.specs.CheckList.{AreChecked, IsItemAnswer}
use Rattle.cj_check.specs.Seen.{IsItem, IsNoneSeen}
use Rattle.cj_check.specs.declared.report.Report.{Report}
use Rattle.cj_check.specs.declared.seen.SeenKeys.{SeenKeys}

-- of a manifest, at its place in a list or alone
abbrev pub IsReport : CheckRequest → Bool → List Zone → Data → List ℕ → Report → Type 0
IsReport r alone zones place bytes report =
    IsChecked r alone zones bytes (outcome_of report.answer)
    × IsItemData zones place bytes (view report.value)

-- of an item of a list, behind the items before it
abbrev pub IsItemReport : CheckRequest → List Zone → ℕ → SeenKeys → SeenKeys → List ℕ → Report
    → Type 0
IsItemReport r zones n seen later text report =
    IsItem zones seen later text (IsItemAnswer r zones text (outcome_of report.answer))
    × IsItem zones seen later text (IsItemTold zones n text (view report.value))

-- the answers of the items of a list
abbrev pub AreAnswers : CheckRequest → List Zone → List (List ℕ) → List Answer → Type 0
AreAnswers r zones texts answers =
    (start : SeenKeys) × IsNoneSeen start × AreChecked r zones start texts answers

-- their JSON values
abbrev pub AreValues : List Zone → List (List ℕ) → List Data → Type 0
AreValues zones texts values =
    (start : SeenKeys) × IsNoneSeen start × AreItemData zones start 1 texts values
