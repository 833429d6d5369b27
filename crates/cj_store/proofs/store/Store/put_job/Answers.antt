-- Store::put_job: that the store is sound with the changed Job, as the type's invariant asks for.
use Rattle.std.proofs.Common.{◌≡◌, ◌+◌, ◌≤◌, inr, refl, arith}
use Rattle.cj_store.specs.Content.{JobAt}
use Rattle.cj_store.proofs.Kept.{put_job_sound, standing_uid}
use Rattle.cj_store.proofs.store.Store.put_job.Goals as goal

pub invariant_of-self : goal.invariant_of-self
invariant_of-self c =
    let planned = rw (← c.self.view_is) at c.requires.planned in
    let version : c.args.job.meta.version ≡ c.self.inside.writes + 1 = planned.0 in
    let generation : c.args.job.meta.generation ≤ c.self.inside.writes + 1 = planned.1.2 in
    let counts : c.self.inside.creations ≤ c.self.inside.writes = c.self.invariant.counts in
    let uid : c.args.job.meta.uid ≤ c.self.inside.creations = standing_uid
    (record {
      crons = c.self.inside.crons;
      jobs = c.self.inside.jobs;
      version = c.self.inside.writes;
      uids = c.self.inside.creations;
    }) (JobAt c.args.job.key) c.args.job.meta.uid c.self.invariant.counted
    planned.1.1 in
    put_job_sound (record {
      crons = c.self.inside.crons;
      jobs = c.self.inside.jobs;
      version = c.self.inside.writes;
      uids = c.self.inside.creations;
    }) _ _ c.args.job _ c.self.invariant c.replace.ensures refl generation
    version (omega arith) uid (omega arith) (inr planned.1.1)
