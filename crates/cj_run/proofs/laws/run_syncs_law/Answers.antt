-- run_syncs_law: its clause RunSyncs, that a run makes whole syncs of a CronJob that nothing troubles.
use Rattle.cj_run.proofs.Apart.{run_syncs}
use Rattle.cj_run.proofs.laws.run_syncs_law.Goals as goal

pub returns : goal.returns
returns c = run_syncs
