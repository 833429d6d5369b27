-- What `scenario` answers of a cluster or of manifests.
use Rattle.std.specs.Prelude.{◌≡◌, ◌⊎◌, ℕ, List, None, Some, codes}
use Rattle.cj_zone.specs.declared.zone.Zone.{Zone}
use Rattle.cj_upcoming.specs.Window.{Span}
use Rattle.cj_args.specs.declared.scenario.ScenarioRequest.{ScenarioRequest}
use Rattle.cj_io.specs.declared.zone_files.file.ZoneFile.{ZoneFile}
use Rattle.cj_answers.specs.Given.{AreGiven, IsNoneGiven, pair_words}
use Rattle.cj_answers.specs.Moments.{asked_moment}
use Rattle.cj_answers.specs.Outcome.{Outcome, explained, refusal}
use Rattle.cj_inspect.specs.Upcoming.{IsNoWindow, IsWindow, end_words, from_words, length_for}

-- the start is refused first
pub record RefusesScenarioStart (r : ScenarioRequest) (o : Outcome) : Type 0 where
  pub start : asked_moment r.from ≡ None
  pub answer : o ≡ explained r.explain from_words (refusal (codes "cronsim: time\n"))

-- then the length
pub record RefusesScenarioLength (r : ScenarioRequest) (o : Outcome) : Type 0 where
  pub from : ℕ
  pub start : asked_moment r.from ≡ Some from
  pub none : IsNoWindow from (length_for from r.length.now r.until)
  pub answer : o ≡ explained r.explain (end_words r.until) (refusal (codes "cronsim: length\n"))

-- then a zone
pub record RefusesScenarioZone (r : ScenarioRequest) (files : List ZoneFile) (o : Outcome)
    : Type 0 where
  pub zones : IsNoneGiven r.zones files
  pub answer : o ≡ explained r.explain pair_words (refusal (codes "cronsim: zone\n"))

-- else the words are such that a scenario can be made of the input
pub record IsScenarioAsked (r : ScenarioRequest) (files : List ZoneFile) : Type 0 where
  pub from : ℕ
  pub start : asked_moment r.from ≡ Some from
  pub w : Span
  pub window : IsWindow from (length_for from r.length.now r.until) w
  pub zones : List Zone
  pub zones_are : AreGiven r.zones files zones

-- rule: scenario
abbrev pub IsScenarioAnswer : ScenarioRequest → List ZoneFile → Outcome → Type 0
IsScenarioAnswer r files o =
    RefusesScenarioStart r o ⊎ RefusesScenarioLength r o ⊎ RefusesScenarioZone r files o
    ⊎ IsScenarioAsked r files
