-- Findings as JSON (RFC 8259). The members of an object are in the order of their names.
use Rattle.std.specs.Prelude.{ℕ, List, [], ◌∷◌, ◌++◌, map, codes, Bool, true, false, Option, None, Some}
use Rattle.std.specs.FinMap as map_of
use Rattle.serde_json.specs.Data.{Data, string, array, object, member, no_members}
use Rattle.serde_json.specs.View.{items_of}
use Rattle.cj_types.specs.Keys.{place_cmp}
use Rattle.cj_types.specs.declared.job.Job.{Job}
use Rattle.cj_zone.specs.TimeText.{time_text_of}
use Rattle.cj_cluster.specs.declared.times.JobTimes.{JobTimes}
use Rattle.cj_audit.specs.declared.kind.FindingKind.{FindingKind}
use Rattle.cj_audit.specs.declared.kind.FindingKind.TheVariants.{Twice, Beside, Undue, Early, Missing, Stray, Stuck}
use Rattle.cj_audit.specs.declared.finding.Finding.{Finding}
use Rattle.cj_audit.specs.Manual.{is_manual}

-- the word that its line begins with
-- rule: audit-json
abbrev pub kind_word : FindingKind → List ℕ
kind_word Twice = codes "twice"
kind_word (Beside e) = codes "beside"
kind_word Undue = codes "undue"
kind_word Early = codes "early"
kind_word Missing = codes "missing"
kind_word Stray = codes "stray"
kind_word Stuck = codes "stuck"

-- the name of the Job, or of both
abbrev pub names_data : List ℕ → Option (List ℕ) → Data
names_data first None = array (items_of (string first ∷ []))
names_data first (Some second) = array (items_of (string first ∷ (string second ∷ [])))

-- those of a finding, which of a time that has no Job, and of a CronJob, are none
-- rule: audit-json
abbrev pub jobs_data : FindingKind → List ℕ → Option (List ℕ) → Data
jobs_data Twice first second = names_data first second
jobs_data (Beside e) first second = names_data first second
jobs_data Undue first second = names_data first second
jobs_data Early first second = names_data first second
jobs_data Missing first second = array (items_of [])
jobs_data Stray first second = names_data first second
jobs_data Stuck first second = array (items_of [])

abbrev pub finding_object : Finding → Data → Data → Data
finding_object f jobs time = object (
    member (codes "finding") (string (kind_word f.kind)) (
    member (codes "jobs") jobs (
    member (codes "name") (string f.cron) (
    member (codes "namespace") (string f.namespace) (
    member (codes "time") time no_members)))))

-- rule: audit-json
abbrev pub finding_data : Finding → Data
finding_data f = finding_object f (jobs_data f.kind f.first f.second) (string (time_text_of f.time))

-- each finding, in their order
-- rule: audit-json
abbrev pub findings_data : List Finding → Data
findings_data fs = array (items_of (map finding_data fs))

-- a Job that somebody made by hand
abbrev pub job_data : Job → Data
job_data job = object (
    member (codes "name") (string job.key.name) (
    member (codes "namespace") (string job.key.namespace) no_members))

abbrev pub job_where : Bool → Job → List Data
job_where false job = []
job_where true job = job_data job ∷ []

-- those among the Jobs, in the order of their keys
abbrev pub manual_jobs : map_of.FinMap place_cmp JobTimes → List Job → List Data
manual_jobs times [] = []
manual_jobs times (job ∷ jobs) = job_where (is_manual times job) job ++ manual_jobs times jobs

-- rules: audit-json, audit-manual
abbrev pub manual_data : map_of.FinMap place_cmp JobTimes → List Job → Data
manual_data times jobs = array (items_of (manual_jobs times jobs))
