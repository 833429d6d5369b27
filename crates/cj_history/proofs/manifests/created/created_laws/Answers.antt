-- created_laws: its clauses cron_reads_back and job_reads_back, from those of manifest_laws.
use Rattle.cj_history.proofs.ManifestsLemmas.Made.{created_cron_is, created_job_is}
use Rattle.cj_history.proofs.manifests.created.created_laws.Goals as goal

pub returns-clause-cron_reads_back : goal.returns-clause-cron_reads_back
returns-clause-cron_reads_back c = λ zones bytes draft warnings s now o reading made.
    c.manifest_laws.ensures.cron_reads_back zones bytes draft warnings o reading (created_cron_is s draft now o made)

pub returns-clause-job_reads_back : goal.returns-clause-job_reads_back
returns-clause-job_reads_back c = λ bytes draft warnings s now o reading made.
    c.manifest_laws.ensures.job_reads_back bytes draft warnings o reading (created_job_is s draft now o made)
