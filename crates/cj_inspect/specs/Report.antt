-- What `report` answers of a cluster. Of the page nothing is said.
use Rattle.std.specs.Prelude.{◌≡◌, ◌⊎◌, ℕ, List, Option, None, Some, option_map, codes}
use Rattle.std.specs.Borrow.{Bor}
use Rattle.cj_args.specs.declared.report.ReportRequest.{ReportRequest}
use Rattle.cj_io.specs.declared.zone_files.file.ZoneFile.{ZoneFile}
use Rattle.cj_zone.specs.declared.zone.Zone.{Zone}
use Rattle.cj_answers.specs.Given.{AreGiven, IsNoneGiven, pair_words}
use Rattle.cj_answers.specs.Moments.{asked_moment, by_clock, moment_of, moment_words}
use Rattle.cj_answers.specs.Outcome.{Outcome, explained, refusal}

abbrev pub or_moment : Option ℕ → List ℕ → Option ℕ
or_moment (Some t) text = Some t
or_moment None text = moment_of text

-- a distance counts from the moment of the page
-- rule: report-since
abbrev pub since_of : ℕ → List ℕ → Option ℕ
since_of now text = or_moment (by_clock now text) text

-- from when on, where a text says a moment; from the beginning on where there is no text
-- rule: report-since
abbrev pub asked_since : ℕ → Option (Bor (List ℕ)) → Option (Option ℕ)
asked_since now None = Some None
asked_since now (Some text) = option_map (λ t. Some t) (since_of now text.now)

-- what that moment has to be
-- rules: explain, moment-text
abbrev pub since_words : List ℕ
since_words = codes "--since: want a time like 2024-01-01T00:00:00Z or 2024-01-01T01:00:00+01:00, a date like 2024-01-01, or -12h from the moment of the page\n"

-- the moment is refused first
pub record RefusesReportMoment (r : ReportRequest) (o : Outcome) : Type 0 where
  pub moment : asked_moment r.moment ≡ None
  pub answer : o ≡ explained r.explain moment_words (refusal (codes "cronsim: time\n"))

-- then the one from which on
pub record RefusesReportSince (r : ReportRequest) (o : Outcome) : Type 0 where
  pub now : ℕ
  pub moment : asked_moment r.moment ≡ Some now
  pub since : asked_since now r.since ≡ None
  pub answer : o ≡ explained r.explain since_words (refusal (codes "cronsim: time\n"))

-- then a zone
pub record RefusesReportZone (r : ReportRequest) (files : List ZoneFile) (o : Outcome)
    : Type 0 where
  pub zones : IsNoneGiven r.zones files
  pub answer : o ≡ explained r.explain pair_words (refusal (codes "cronsim: zone\n"))

-- else the words are such that a page can be made of the files
pub record IsReportAsked (r : ReportRequest) (files : List ZoneFile) : Type 0 where
  pub now : ℕ
  pub moment : asked_moment r.moment ≡ Some now
  pub since : Option ℕ
  pub since_is : asked_since now r.since ≡ Some since
  pub zones : List Zone
  pub zones_are : AreGiven r.zones files zones

-- what `report` answers
-- rule: report
abbrev pub IsReportOutcome : ReportRequest → List ZoneFile → Outcome → Type 0
IsReportOutcome r files o =
    RefusesReportMoment r o ⊎ RefusesReportSince r o ⊎ RefusesReportZone r files o
    ⊎ IsReportAsked r files
