-- What the answer of a step prints.
use Rattle.std.specs.Prelude.{ℕ, List, ◌++◌, codes, filter, is_some, length, Option, Some, None, Result, Ok, Err}
use Rattle.std.specs.Fmt.{decimal}
use Rattle.cj_base.specs.declared.refusal.Refusal.{Refusal}
use Rattle.cj_types.specs.declared.job.Job.{Job}
use Rattle.cj_types.specs.Keys.{Place}
use Rattle.cj_zone.specs.TimeText.{time_text_of}
use Rattle.cj_calls.specs.declared.reply.Reply.{Reply}
use Rattle.cj_calls.specs.declared.reply.Reply.TheVariants as Is
use Rattle.cj_script.specs.declared.operations.verb.Plain.{Plain}
use Rattle.cj_script.specs.declared.operations.verb.Plain.TheVariants as Kind
use Rattle.cj_script.specs.declared.operations.verb.Verb.{Verb}
use Rattle.cj_script.specs.declared.operations.verb.Verb.TheVariants.{Does, Writes}
use Rattle.cj_report.specs.Words.{refusal_name}

-- `ok v=VERSION`
abbrev pub version_text : ℕ → List ℕ
version_text version = codes "ok v=" ++ decimal version

-- `ok COUNT`
abbrev pub count_text : ℕ → List ℕ
count_text count = codes "ok " ++ decimal count

-- `ok NAMESPACE/NAME`
abbrev pub key_text : Place → List ℕ
key_text key = codes "ok " ++ (key.namespace ++ (codes "/" ++ key.name))

-- `ok NAME v=VERSION`
abbrev pub named_text : Place → ℕ → List ℕ
named_text key version = codes "ok " ++ (key.name ++ (codes " v=" ++ decimal version))

-- the claimed time with the version of the status that says so
abbrev pub claimed_text : Option (ℕ × ℕ) → List ℕ
claimed_text None = codes "ok none"
claimed_text (Some (time, version)) = codes "ok "
    ++ (time_text_of time ++ (codes " v=" ++ decimal version))

-- the Job that was dropped with the version of its deletion
abbrev pub dropped_text : Option (Place × ℕ) → List ℕ
dropped_text None = codes "ok gone"
dropped_text (Some (key, version)) = named_text key version

-- a Job that is made has a name that nobody said
abbrev pub made_text : Plain → Job → List ℕ
made_text Kind.Make job = named_text job.key job.meta.version
made_text other job = version_text job.meta.version

abbrev pub job_text : Verb → Job → List ℕ
job_text (Writes verb) job = version_text job.meta.version
job_text (Does verb) job = made_text verb job

-- the CronJob of a key, if there is one
abbrev pub seen_text : {A : Type 0} → Option A → List ℕ
seen_text None = codes "ok none"
seen_text (Some cron) = codes "ok"

-- how many of the Jobs are there
abbrev pub found : List (Option Job) → ℕ
found jobs = length (filter is_some jobs)

-- rule: step-line
unfoldable pub reply_text : Verb → Reply → List ℕ
reply_text verb (Is.Cron cron) = version_text cron.meta.version
reply_text verb (Is.Job job) = job_text verb job
reply_text verb (Is.Crons crons version) = codes "ok"
reply_text verb (Is.Jobs jobs version) = codes "ok"
reply_text verb (Is.Version version) = version_text version
reply_text verb (Is.Events events) = count_text (length events)
reply_text verb Is.Done = codes "ok"
reply_text verb (Is.Key key) = key_text key
reply_text verb (Is.SeenCron cron) = seen_text cron
reply_text verb (Is.SeenJobs jobs) = count_text (length jobs)
reply_text verb (Is.SeenActive jobs) = count_text (found jobs)
reply_text verb (Is.Claimed claimed) = claimed_text claimed
reply_text verb (Is.Dropped dropped) = dropped_text dropped

-- a refusal prints its name
-- rule: step-line
abbrev pub answer_text : Verb → Result Reply Refusal → List ℕ
answer_text verb (Ok reply) = reply_text verb reply
answer_text verb (Err refusal) = refusal_name refusal
