-- What is said of listed objects: each after a blank, with the version of the write that left it.
use Rattle.std.specs.Prelude.{ℕ, List, [], ◌∷◌, ◌++◌, codes, Option, Some, None}
use Rattle.std.specs.Fmt.{decimal}
use Rattle.cj_types.specs.Keys.{Place}
use Rattle.cj_types.specs.declared.cron.CronJob.{CronJob}
use Rattle.cj_types.specs.declared.job.Job.{Job}
use Rattle.cj_types.specs.declared.event.Event.{Event}
use Rattle.cj_types.specs.declared.event.Event.TheVariants.{Added, Modified, Deleted}
use Rattle.cj_types.specs.declared.event.Object.{Object}
use Rattle.cj_types.specs.declared.event.Object.TheVariants as Kind
use Rattle.cj_calls.specs.declared.reply.Reply.{Reply}
use Rattle.cj_calls.specs.declared.reply.Reply.TheVariants as Is
use Rattle.cj_report.specs.Columns.{place_word}
use Rattle.cj_report.specs.history.Fields.{cron_fields, job_fields}

-- `NAMESPACE/NAME@VERSION`
abbrev pub item : Place → ℕ → List ℕ
item key version = place_word key ++ (codes "@" ++ decimal version)

abbrev pub cron_items : List CronJob → List ℕ
cron_items [] = []
cron_items (cron ∷ crons) = (codes " " ++ item cron.key cron.meta.version) ++ cron_items crons

abbrev pub job_items : List Job → List ℕ
job_items [] = []
job_items (job ∷ jobs) = (codes " " ++ item job.key job.meta.version) ++ job_items jobs

-- a name that no Job of the CronJob has
abbrev pub active_item : Option Job → List ℕ
active_item None = codes "-"
active_item (Some job) = item job.key job.meta.version

abbrev pub active_items : List (Option Job) → List ℕ
active_items [] = []
active_items (job ∷ jobs) = (codes " " ++ active_item job) ++ active_items jobs

abbrev pub object_item : Object → List ℕ
object_item (Kind.Cron cron) = codes "CronJob:" ++ item cron.key cron.meta.version
object_item (Kind.Job job) = codes "Job:" ++ item job.key job.meta.version

-- `ADDED:KIND:NAMESPACE/NAME@VERSION`, as a watch names the kinds of events
abbrev pub event_item : Event → List ℕ
event_item (Added object) = codes "ADDED:" ++ object_item object
event_item (Modified object) = codes "MODIFIED:" ++ object_item object
event_item (Deleted object) = codes "DELETED:" ++ object_item object

abbrev pub event_items : List Event → List ℕ
event_items [] = []
event_items (event ∷ events) = (codes " " ++ event_item event) ++ event_items events

-- an object with its version
abbrev pub at_version : ℕ → List ℕ → List ℕ
at_version version what = codes " v=" ++ (decimal version ++ what)

abbrev pub seen_fields : Option CronJob → List ℕ
seen_fields None = []
seen_fields (Some cron) = at_version cron.meta.version (cron_fields cron)

-- what an answer says beyond the line of its step
-- rule: history-lines
unfoldable pub listed : Reply → List ℕ
listed (Is.Cron cron) = cron_fields cron
listed (Is.Job job) = job_fields job
listed (Is.Crons crons version) = at_version version (cron_items crons)
listed (Is.Jobs jobs version) = at_version version (job_items jobs)
listed (Is.Events events) = event_items events
listed (Is.SeenCron cron) = seen_fields cron
listed (Is.SeenJobs jobs) = job_items jobs
listed (Is.SeenActive jobs) = active_items jobs
listed reply = []
