-- What `describe` answers of a schedule, or of a file's CronJobs.
use Rattle.std.specs.Prelude.{◌≡◌, ◌⊎◌, List, Bool, true, false}
use Rattle.cj_args.specs.Command.{is_in_file}
use Rattle.cj_args.specs.declared.request.DescribeRequest.{DescribeRequest}
use Rattle.cj_io.specs.declared.zone_files.file.ZoneFile.{ZoneFile}
use Rattle.cj_answers.specs.Describe.{IsDescribeOutcome}
use Rattle.cj_answers.specs.Outcome.{Outcome, RefusesForm}
use Rattle.cj_answers.specs.as_json.Forms.{is_form}

-- of a file's CronJobs the form is looked at first
-- rule: describe-file
abbrev pub IsFileDescribed : DescribeRequest → Outcome → Type 0
IsFileDescribed r o = RefusesForm r.explain r.output.now o ⊎ (is_form r.output.now ≡ true)

abbrev pub IsDescribedWhere : Bool → DescribeRequest → List ZoneFile → Outcome → Type 0
IsDescribedWhere true r files o = IsFileDescribed r o
IsDescribedWhere false r files o = IsDescribeOutcome r files o

-- rules: describe-file, describe-json, describe-sentence, describe-times
abbrev pub IsDescribed : DescribeRequest → List ZoneFile → Outcome → Type 0
IsDescribed r files o = IsDescribedWhere (is_in_file r) r files o
