-- Store::put_cron: its clause ok, and that the store is sound with the changed CronJob.
use Rattle.std.proofs.Common.{◌≡◌, ◌+◌, ◌≤◌, inr, Some, ap, sym, ◌∙◌, arith}
use Rattle.std.specs.FinMap as map
use Rattle.cj_store.proofs.Kept.{put_cron_sound, put_cron_at, standing_uid}
use Rattle.cj_types.specs.Keys.{Place}
use Rattle.cj_store.specs.Content.{CronAt, uid_at}
use Rattle.cj_store.proofs.store.Store.put_cron.Goals as goal

pub invariant_of-self-2 : goal.invariant_of-self-2
invariant_of-self-2 c =
    let planned = rw (← c.self.view_is) at c.requires.planned in
    let version : c.args.cron.meta.version ≡ c.self.inside.writes + 1 = planned.0 in
    let generation : c.args.cron.meta.generation ≤ c.self.inside.writes + 1 = planned.1.1 in
    let counts : c.self.inside.creations ≤ c.self.inside.writes = c.self.invariant.counts in
    let uid : c.args.cron.meta.uid ≤ c.self.inside.creations = standing_uid
    (record {
      crons = c.self.inside.crons;
      jobs = c.self.inside.jobs;
      version = c.self.inside.writes;
      uids = c.self.inside.creations;
    }) (CronAt c.args.cron.key) c.args.cron.meta.uid c.self.invariant.counted
    planned.1.0 in
    let standing : uid_at (record {
      crons = c.self.inside.crons;
      jobs = c.self.inside.jobs;
      version = c.self.inside.writes;
      uids = c.self.inside.creations;
    }) (CronAt c.in_ok-key.key)
    ≡ Some c.args.cron.meta.uid = ap (λ (q : Place). uid_at
    (record {
      crons = c.self.inside.crons;
      jobs = c.self.inside.jobs;
      version = c.self.inside.writes;
      uids = c.self.inside.creations;
    }) (CronAt q)) (c.in_ok-key.ensures.ok ∙ c.key_of.ensures) ∙ planned.1.0 in
    put_cron_sound (record {
      crons = c.self.inside.crons;
      jobs = c.self.inside.jobs;
      version = c.self.inside.writes;
      uids = c.self.inside.creations;
    }) _ _ c.args.cron _ c.self.invariant c.in_ok-insert.ensures.ok
    (sym (c.in_ok-key.ensures.ok ∙ c.key_of.ensures)) generation version (omega arith) uid (omega arith)
    (inr standing)

pub returns-clause-ok : goal.returns-clause-ok
returns-clause-ok c =
    let n : c.insert.new.self ≡ map.insert c.args.self.now.crons c.args.cron.key c.args.cron =
    put_cron_at (record {
      crons = c.self.inside.crons;
      jobs = c.self.inside.jobs;
      version = c.self.inside.writes;
      uids = c.self.inside.creations;
    }) _ _ _ c.args.cron c.self.view_is c.in_ok-insert.ensures.ok
    (sym (c.in_ok-key.ensures.ok ∙ c.key_of.ensures)) in
    rw (n, ← c.self.view_is)
