-- Store::add_job: that the store is sound with the new Job, which the type's invariant asks for.
use Rattle.std.proofs.Common.{◌≡◌, ◌+◌, ◌≤◌, inl, refl, arith}
use Rattle.cj_store.proofs.Kept.{put_job_sound}
use Rattle.cj_store.proofs.store.Store.add_job.Goals as goal

pub invariant_of-self-2 : goal.invariant_of-self-2
invariant_of-self-2 c =
    let planned = rw (← c.self.view_is) at c.requires.planned in
    let version : c.args.job.meta.version ≡ c.self.inside.writes + 1 = planned.0 in
    let uid : c.args.job.meta.uid ≡ c.self.inside.creations + 1 = planned.1.1 in
    let generation : c.args.job.meta.generation ≡ 1 = planned.1.2 in
    let counts : c.self.inside.creations ≤ c.self.inside.writes = c.self.invariant.counts in
    put_job_sound (record {
      crons = c.self.inside.crons;
      jobs = c.self.inside.jobs;
      version = c.self.inside.writes;
      uids = c.self.inside.creations;
    }) _ _ c.args.job _ c.self.invariant c.in_ok-add.ensures.ok refl
    (omega arith) version (omega arith) (omega arith) (omega arith) (inl uid)
