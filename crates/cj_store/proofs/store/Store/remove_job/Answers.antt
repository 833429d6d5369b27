-- Store::remove_job: that the store is sound without the Job, as the type's invariant asks for.
use Rattle.cj_store.proofs.Kept.{remove_job_sound}
use Rattle.cj_store.proofs.store.Store.remove_job.Goals as goal

pub invariant_of-self-2 : goal.invariant_of-self-2
invariant_of-self-2 c = remove_job_sound (record {
  crons = c.self.inside.crons;
  jobs = c.self.inside.jobs;
  version = c.self.inside.writes;
  uids = c.self.inside.creations;
}) _ _ c.self.invariant c.in_ok-remove.ensures.ok
