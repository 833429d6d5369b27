-- The last due times as JSON. The members of an object are in the order of their names.
use Rattle.std.specs.Prelude.{ℕ, List, Bool, true, false, codes}
use Rattle.serde_json.specs.Data.{Data, string, object, member, no_members}
use Rattle.cj_schedule.specs.Matches.{Sets}
use Rattle.cj_zone.specs.declared.zone.Zone.{Zone}
use Rattle.cj_json.specs.Values.{time_data}
use Rattle.cj_args.specs.declared.previous.PreviousRequest.{PreviousRequest}
use Rattle.cj_answers.specs.PreviousText.{AreBefore, IsPreviousText}
use Rattle.cj_answers.specs.as_json.Forms.{IsJsonLine}
use Rattle.cj_answers.specs.as_json.Next.{times_data, zone_data}

abbrev pub previous_object : List ℕ → Data → Data → Data → Data
previous_object schedule before zone times = object (
    member (codes "before") before (
    member (codes "schedule") (string schedule) (
    member (codes "timeZone") zone (
    member (codes "times") times no_members))))

-- rule: previous-json
abbrev pub previous_data : PreviousRequest → ℕ → List ℕ → Data
previous_data r before times = previous_object r.schedule.now (time_data before)
    (zone_data r.time_zone r.zone) (times_data times)

pub record IsPreviousJson (r : PreviousRequest) (s : Sets) (z : Zone) (before : ℕ) (text : List ℕ)
    : Type 0 where
  pub times : List ℕ
  pub are : AreBefore s z before r.count times
  pub line : IsJsonLine (previous_data r before times) text

-- in JSON, or a line for each
-- rules: previous-json, previous-lines
abbrev pub IsPreviousPrinted : Bool → PreviousRequest → Sets → Zone → ℕ → List ℕ → Type 0
IsPreviousPrinted true r s z before text = IsPreviousJson r s z before text
IsPreviousPrinted false r s z before text = IsPreviousText s z before r.count text
