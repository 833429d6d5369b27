-- Store::remove_cron: that the store is sound without the CronJob, as the type's invariant asks for.
use Rattle.cj_store.proofs.Kept.{remove_cron_sound}
use Rattle.cj_store.proofs.store.Store.remove_cron.Goals as goal

pub invariant_of-self : goal.invariant_of-self
invariant_of-self c = remove_cron_sound (record {
  crons = c.self.inside.crons;
  jobs = c.self.inside.jobs;
  version = c.self.inside.writes;
  uids = c.self.inside.creations;
}) _ _ c.self.invariant c.remove.ensures
