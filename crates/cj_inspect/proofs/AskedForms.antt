-- What is asked for in a form that there is.
use Rattle.std.proofs.Common.{◌≡◌, List, true, inr}
use Rattle.cj_args.specs.declared.request.UpcomingRequest.{UpcomingRequest}
use Rattle.cj_io.specs.declared.zone_files.file.ZoneFile.{ZoneFile}
use Rattle.cj_inspect.specs.declared.upcoming.Asked.{Asked}
use Rattle.cj_inspect.specs.declared.upcoming.Asked.TheVariants as Is
use Rattle.cj_inspect.specs.Upcoming.{IsAsked, IsWindowAsked}
use Rattle.cj_answers.specs.as_json.Forms.{is_form}

-- For words_asked: what is asked for is asked for in that form.
pub in_form : (r : UpcomingRequest) (files : List ZoneFile) (a : Asked) → is_form r.output.now ≡ true
    → IsWindowAsked r files a → IsAsked r files a
in_form r files (Is.Known w zones) known h = record { known = known; answer = h }
in_form r files (Is.Refused a) known h = inr (record { known = known; answer = h })
