-- What is written of an object that the store made of a manifest says what the manifest says.
use Rattle.std.specs.Prelude.{◌≡◌, ℕ, List, Ok}
use Rattle.cj_types.specs.declared.cron.CronJob.{CronJob}
use Rattle.cj_types.specs.declared.cron.CronJobDraft.{CronJobDraft}
use Rattle.cj_types.specs.declared.job.Job.{Job}
use Rattle.cj_types.specs.declared.job.JobDraft.{JobDraft}
use Rattle.cj_json.specs.Objects.{cron_written, job_written}
use Rattle.cj_zone.specs.declared.zone.Zone.{Zone}
use Rattle.cj_store.specs.Content.{Content}
use Rattle.cj_store.specs.Crons.{cron_created}
use Rattle.cj_store.specs.Jobs.{job_created}
use Rattle.cj_manifest.specs.Drafts.{cron_draft, job_draft}
use Rattle.cj_manifest.specs.Faults.{cron_faults, job_faults}
use Rattle.cj_manifest.specs.Laws.{ReadsBack, identified}
use Rattle.cj_manifest.specs.Reading.{IsReading}
use Rattle.cj_manifest.specs.Warnings.{cron_warnings, job_warnings}

-- where some bytes are read as the manifest of a CronJob under the zones of a table, and a store's
-- create answers a CronJob for its draft, that CronJob reads back under the same zones as the
-- draft, with the CronJob's uid and version
-- rule: reads-back
abbrev pub CreatedCronReadsBack : Type 0
CreatedCronReadsBack = (zones : List Zone) (bytes : List ℕ) (draft : CronJobDraft)
    (warnings : List (List ℕ)) (s : Content) (now : ℕ) (o : CronJob) →
    IsReading CronJobDraft (cron_faults zones) cron_draft cron_warnings bytes draft warnings
    → cron_created s draft now ≡ Ok o →
    ReadsBack CronJobDraft (cron_faults zones) cron_draft cron_warnings (cron_written o)
    (record draft { meta = identified draft.meta o.meta })

-- and so a Job that a user's create answers
-- rule: reads-back
abbrev pub CreatedJobReadsBack : Type 0
CreatedJobReadsBack = (bytes : List ℕ) (draft : JobDraft) (warnings : List (List ℕ)) (s : Content)
    (now : ℕ) (o : Job) →
    IsReading JobDraft job_faults job_draft job_warnings bytes draft warnings
    → job_created s draft now ≡ Ok o →
    ReadsBack JobDraft job_faults job_draft job_warnings (job_written o)
    (record draft { meta = identified draft.meta o.meta })
