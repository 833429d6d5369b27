-- syncs_law: its clause SyncsGoOn, that a CronJob which is left to its syncs has whole ones; what
-- leaves it to them; and the sample.
use Rattle.cj_history.proofs.ProgressLemmas.Apart.{syncs_go_on}
use Rattle.cj_history.proofs.ProgressLemmas.ApartSample.{sample_apart}
use Rattle.cj_history.proofs.ProgressLemmas.Spared.{cron_spared, job_spared}
use Rattle.cj_history.proofs.progress.laws.syncs_law.Goals as goal

pub returns : goal.returns
returns c = let a = cron_spared in let b = job_spared in let d = sample_apart in syncs_go_on
