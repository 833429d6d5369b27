-- A schedule in a sentence and its next times, as JSON. The members of an object are in the order
-- of their names.
use Rattle.std.specs.Prelude.{ℕ, ◌==◌, nat_lt, List, length, Bool, true, false, codes, if◌then◌else◌}
use Rattle.std.specs.List.{before_first, position_or_len}
use Rattle.serde_json.specs.Data.{Data, string, array, object, member, no_members}
use Rattle.serde_json.specs.View.{items_of}
use Rattle.cj_schedule.specs.Matches.{Sets}
use Rattle.cj_zone.specs.declared.zone.Zone.{Zone}
use Rattle.cj_upcoming.specs.Sentence.{sentence}
use Rattle.cj_upcoming.specs.json.Coming.{AreTimes, changes_along, times_data}
use Rattle.cj_json.specs.Values.{time_data}
use Rattle.cj_args.specs.declared.request.DescribeRequest.{DescribeRequest}
use Rattle.cj_answers.specs.DescribeText.{IsDescribed}
use Rattle.cj_answers.specs.as_json.Forms.{IsJsonLine}
use Rattle.cj_answers.specs.as_json.Next.{zone_data}

-- a text up to the end of its first line
abbrev pub first_line : List ℕ → List ℕ
first_line text =
    if nat_lt (position_or_len (λ b. b == 10) text) (length text)
    then before_first (λ b. b == 10) text else text

abbrev pub describe_object : Data → Data → List ℕ → List ℕ → Data → Data → Data
describe_object after changes schedule sentence zone times = object (
    member (codes "after") after (
    member (codes "changes") changes (
    member (codes "schedule") (string schedule) (
    member (codes "sentence") (string sentence) (
    member (codes "timeZone") zone (
    member (codes "times") times no_members))))))

-- the start, where the clock is put on the way from one time to the next, the schedule, its
-- sentence, the zone as the words give it, and the times
-- rule: describe-json
abbrev pub describe_data : DescribeRequest → Sets → Zone → ℕ → List ℕ → Data
describe_data r s z start times =
    describe_object (time_data start) (array (items_of (changes_along z start times)))
    r.schedule.now
    (first_line (sentence s z.name)) (zone_data r.time_zone r.zone) (times_data z start times)

pub record IsDescribeJson (r : DescribeRequest) (s : Sets) (z : Zone) (start : ℕ) (text : List ℕ)
    : Type 0 where
  pub times : List ℕ
  pub are : AreTimes s z start r.count times
  pub line : IsJsonLine (describe_data r s z start times) text

-- in JSON, or in lines
-- rules: describe-json, describe-sentence, describe-times
abbrev pub IsDescribePrinted : Bool → DescribeRequest → Sets → Zone → ℕ → List ℕ → Type 0
IsDescribePrinted true r s z start text = IsDescribeJson r s z start text
IsDescribePrinted false r s z start text = IsDescribed s z start r.count text
