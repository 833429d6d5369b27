-- Store::add_cron: its clause ok, and that the store is sound with the new CronJob.
use Rattle.std.proofs.Common.{◌≡◌, ◌+◌, ◌≤◌, inl, sym, ◌∙◌, arith}
use Rattle.std.specs.FinMap as map
use Rattle.cj_store.proofs.Kept.{put_cron_sound, put_cron_at}
use Rattle.cj_store.proofs.store.Store.add_cron.Goals as goal

pub invariant_of-self-2 : goal.invariant_of-self-2
invariant_of-self-2 c =
    let planned = rw (← c.self.view_is) at c.requires.planned in
    let version : c.args.cron.meta.version ≡ c.self.inside.writes + 1 = planned.0 in
    let uid : c.args.cron.meta.uid ≡ c.self.inside.creations + 1 = planned.1.1 in
    let generation : c.args.cron.meta.generation ≡ 1 = planned.1.2 in
    let counts : c.self.inside.creations ≤ c.self.inside.writes = c.self.invariant.counts in
    put_cron_sound (record {
      crons = c.self.inside.crons;
      jobs = c.self.inside.jobs;
      version = c.self.inside.writes;
      uids = c.self.inside.creations;
    }) _ _ c.args.cron _ c.self.invariant c.in_ok-insert.ensures.ok
    (sym (c.in_ok-key.ensures.ok ∙ c.key_of.ensures)) (omega arith) version (omega arith) (omega arith) (omega arith)
    (inl uid)

pub returns-clause-ok : goal.returns-clause-ok
returns-clause-ok c =
    let n : c.insert.new.self ≡ map.insert c.args.self.now.crons c.args.cron.key c.args.cron =
    put_cron_at (record {
      crons = c.self.inside.crons;
      jobs = c.self.inside.jobs;
      version = c.self.inside.writes;
      uids = c.self.inside.creations;
    }) _ _ _ c.args.cron c.self.view_is c.in_ok-insert.ensures.ok
    (sym (c.in_ok-key.ensures.ok ∙ c.key_of.ensures)) in
    rw (n, ← c.self.view_is)
