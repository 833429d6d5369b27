-- manifest_laws: its clauses cron_reads_back and job_reads_back, each a lemma of that name.
use Rattle.cj_manifest.proofs.CronTrip.{cron_reads_back}
use Rattle.cj_manifest.proofs.JobTrip.{job_reads_back}
use Rattle.cj_manifest.proofs.laws.manifest_laws.Goals as goal

pub returns-clause-cron_reads_back : goal.returns-clause-cron_reads_back
returns-clause-cron_reads_back c = cron_reads_back

pub returns-clause-job_reads_back : goal.returns-clause-job_reads_back
returns-clause-job_reads_back c = job_reads_back
