-- What `audit` answers of a cluster.
use Rattle.std.specs.Prelude.{◌≡◌, ◌⊎◌, ℕ, ◌≤◌, ◌&&◌, not, List, [], ◌∷◌, ◌++◌, filter, length, map as map_list, Option, None, Some, IfSome, option_map, Bool, true, false, codes}
use Rattle.std.specs.Borrow.{Bor}
use Rattle.std.specs.FinMap as map
use Rattle.cj_zone.specs.declared.zone.Zone.{Zone}
use Rattle.cj_audit.specs.declared.finding.Finding.{Finding}
use Rattle.cj_audit.specs.Findings.{IsAudit}
use Rattle.cj_audit.specs.Since.{is_since}
use Rattle.cj_audit.specs.Manual.{manual_lines}
use Rattle.cj_audit.specs.Told.{has_jobs_alone, times_words}
use Rattle.cj_audit.specs.Words.{audit_words}
use Rattle.cj_cluster.specs.declared.cron.ClusterCron.{ClusterCron}
use Rattle.cj_cluster.specs.kubectl.Reading.{IsClusterList}
use Rattle.cj_cluster.specs.declared.kubectl.list.ClusterList.{ClusterList}
use Rattle.cj_args.specs.declared.request.AuditRequest.{AuditRequest}
use Rattle.cj_io.specs.declared.zone_files.file.ZoneFile.{ZoneFile}
use Rattle.cj_answers.specs.declared.answer.Ending.{Ending}
use Rattle.cj_answers.specs.Clusters.{RefusesList, ending_by, is_read, note_words}
use Rattle.cj_answers.specs.Given.{AreGiven, IsNoneGiven, pair_words}
use Rattle.cj_answers.specs.Moments.{asked_moment, moment_words}
use Rattle.cj_answers.specs.Outcome.{IsInForm, Outcome, RefusesForm, explained, refusal}
use Rattle.cj_inspect.specs.Narrowing.{IsPart, is_everything}
use Rattle.cj_inspect.specs.Nights.{TellsNights, look_of}
use Rattle.cj_inspect.specs.Report.{asked_since}
use Rattle.cj_inspect.specs.Why.{IsNoticed, has_home, is_nothing, unknown_lines}
use Rattle.cj_inspect.specs.as_json.Audit.{IsAuditShown}
use Rattle.cj_answers.specs.as_json.Forms.{is_json}

abbrev pub is_clean : List Finding → Bool
is_clean [] = true
is_clean (f ∷ fs) = false

-- what is said of a list of Jobs alone
-- rule: audit-jobs-alone
abbrev pub alone_line : Bool → List ℕ
alone_line false = []
alone_line true = codes "cronsim: the list has Jobs of CronJobs, and no CronJob to look at them by; kubectl get cronjobs,jobs -o json lists both\n"

-- done where nothing was found, no item was refused, and the list has CronJobs if it has their Jobs
-- rule: audit-status
abbrev pub ending_of : ClusterList → List Finding → Ending
ending_of list findings =
    ending_by ((is_clean findings && is_read list.notes)
    && not (has_jobs_alone list.cluster list.notes))

-- what is printed of the findings
-- rule: audit-jobs-alone
abbrev pub audited : ClusterList → List Finding → List ℕ → Outcome
audited list findings printed = record {
  ending = ending_of list findings;
  printed = printed;
  said = alone_line (has_jobs_alone list.cluster list.notes);
}

-- what a line of a Job made by hand means, where there is one
-- rule: audit-explained
abbrev pub manual_words : List ℕ → List ℕ
manual_words [] = []
manual_words (x ∷ xs) = codes "manual: somebody made such a Job, as kubectl create job --from does; no controller did, so no finding is of it\n"

-- what no finding is of, in a list that has CronJobs
-- rule: audit-scope
abbrev pub scope_words : List ClusterCron → List ℕ
scope_words [] = []
scope_words (c ∷ cs) = codes "audit: due times after a CronJob's last Job are not looked at; cronsim why says what was missed since\n"

-- what is wrong with the items that can't be used, what a Job made by hand means, how many tell
-- their time otherwise, what the findings mean, and what no finding is of
-- rules: audit-explained, audit-scope
abbrev pub words_of : ClusterList → List Finding → List ℕ
words_of list findings =
    note_words list.notes
    ++ (manual_words (manual_lines list.cluster.times (map.values list.cluster.jobs))
    ++ (times_words list.cluster.times (map.values list.cluster.jobs)
    ++ (audit_words findings ++ scope_words (map.values list.cluster.crons))))

-- ---- what is asked about

-- a moment that may be left out
-- rule: audit-since
abbrev pub audit_moment : Option (Bor (List ℕ)) → Option (Option ℕ)
audit_moment None = Some None
audit_moment (Some text) = option_map (λ t. Some t) (asked_moment (Some text))

-- the moment that a distance counts from; without one each distance is before 1970, and so none
abbrev pub base_of : Option ℕ → ℕ
base_of None = 0
base_of (Some t) = t

-- what the one from which on there are findings has to be
-- rules: explain, audit-since
abbrev pub since_words : List ℕ
since_words = codes "--since: want a time like 2024-01-01T00:00:00Z or 2024-01-01T01:00:00+01:00, a date like 2024-01-01, or -12h from the moment of --now\n"

-- the findings from then on
-- rule: audit-since
abbrev pub seen : Option ℕ → List Finding → List Finding
seen None findings = findings
seen (Some first) findings = filter (is_since first) findings

abbrev pub within_of : AuditRequest → Option (List ℕ)
within_of r = option_map (λ s. s.now) r.namespace

abbrev pub unknown_of : AuditRequest → ClusterList → List ℕ
unknown_of r list =
    unknown_lines (within_of r) (map.values list.cluster.crons) list.notes r.crons.items

-- ---- the answer

-- of a list, in a picture or else as JSON or in lines, with what clocks do
-- rule: clock-nights
pub record AuditsList (r : AuditRequest) (zones : List Zone) (since now : Option ℕ)
    (list : ClusterList) (o : Outcome) : Type 0 where
  pub all : List Finding
  pub found : IsAudit zones list.cluster list.notes all
  pub printed : List ℕ
  pub prints : IsAuditShown r.svg (is_json r.output.now) list (seen since all) printed
  pub nights : TellsNights r.explain zones (look_of list.cluster since now)
      (map_list (λ c. c.cron) (map.values list.cluster.crons))
      (explained r.explain (words_of list (seen since all)) (audited list (seen since all) printed))
      o

-- of the part of a list that is asked about, with what is told beside it
-- rules: audit-named, why-named
pub record AuditsWhole (r : AuditRequest) (zones : List Zone) (since now : Option ℕ)
    (whole : ClusterList) (o : Outcome) : Type 0 where
  pub list : ClusterList
  pub part : IsPart (is_everything (within_of r) r.crons.items) whole list
  pub base : Outcome
  pub audits : AuditsList r zones since now list base
  pub notices : IsNoticed (has_home (within_of r) whole) false base o

-- one of those that are named is unknown, as these lines say
-- rule: why-named
pub record RefusesAuditCron (r : AuditRequest) (unknown : List ℕ) (o : Outcome) : Type 0 where
  pub some : is_nothing unknown ≡ false
  pub answer : o ≡ explained r.explain unknown (refusal (codes "cronsim: cron\n"))

-- they are all there
pub record AuditsKnown (r : AuditRequest) (zones : List Zone) (since now : Option ℕ)
    (whole : ClusterList) (unknown : List ℕ) (o : Outcome) : Type 0 where
  pub known : is_nothing unknown ≡ true
  pub audits : AuditsWhole r zones since now whole o

abbrev pub IsWholeAudited : AuditRequest → List Zone → Option ℕ → Option ℕ → ClusterList → Outcome
    → Type 0
IsWholeAudited r zones since now whole o =
    RefusesAuditCron r (unknown_of r whole) o
    ⊎ AuditsKnown r zones since now whole (unknown_of r whole) o

-- of a list that was read
pub record AuditsRead (r : AuditRequest) (zones : List Zone) (since now : Option ℕ)
    (bytes : List ℕ) (o : Outcome) : Type 0 where
  pub whole : ClusterList
  pub read : IsClusterList zones bytes whole
  pub audited_is : IsWholeAudited r zones since now whole o

-- what the bytes of a list are answered
abbrev pub IsAuditedOf : AuditRequest → List Zone → Option ℕ → Option ℕ → List ℕ → Outcome → Type 0
IsAuditedOf r zones since now bytes o =
    RefusesList r.explain bytes o ⊎ AuditsRead r zones since now bytes o

-- the moment is refused first
pub record RefusesAuditMoment (r : AuditRequest) (o : Outcome) : Type 0 where
  pub moment : audit_moment r.moment ≡ None
  pub answer : o ≡ explained r.explain moment_words (refusal (codes "cronsim: time\n"))

-- then the one from which on there are findings
pub record RefusesAuditSince (r : AuditRequest) (o : Outcome) : Type 0 where
  pub now : Option ℕ
  pub moment : audit_moment r.moment ≡ Some now
  pub since : asked_since (base_of now) r.since ≡ None
  pub answer : o ≡ explained r.explain since_words (refusal (codes "cronsim: time\n"))

-- then a zone, and nothing is read then
pub record RefusesAuditZone (r : AuditRequest) (files : List ZoneFile) (o : Outcome) : Type 0 where
  pub zones : IsNoneGiven r.zones files
  pub answer : o ≡ explained r.explain pair_words (refusal (codes "cronsim: zone\n"))

-- else what is read, all of the input, is audited
pub record AuditsInput (r : AuditRequest) (files : List ZoneFile) (input : Option (List ℕ))
    (o : Outcome) : Type 0 where
  pub now : Option ℕ
  pub moment : audit_moment r.moment ≡ Some now
  pub since : Option ℕ
  pub since_is : asked_since (base_of now) r.since ≡ Some since
  pub zones : List Zone
  pub zones_are : AreGiven r.zones files zones
  pub bytes : List ℕ
  pub bytes_are : IfSome input (λ xs. bytes ≡ xs)
  pub fits : length bytes ≤ 268_435_456
  pub audited_is : IsAuditedOf r zones since now bytes o

-- what `audit` answers in a form that there is, where the input is known
-- rules: audit-json, audit-lines
abbrev pub IsAuditAnswer : AuditRequest → List ZoneFile → Option (List ℕ) → Outcome → Type 0
IsAuditAnswer r files input o =
    RefusesAuditMoment r o ⊎ RefusesAuditSince r o ⊎ RefusesAuditZone r files o
    ⊎ AuditsInput r files input o

-- the form is looked at first
abbrev pub IsAuditOutcome : AuditRequest → List ZoneFile → Option (List ℕ) → Outcome → Type 0
IsAuditOutcome r files input o =
    RefusesForm r.explain r.output.now o ⊎ IsInForm r.output.now (IsAuditAnswer r files input o)
