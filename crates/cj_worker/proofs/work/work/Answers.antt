-- work: its ensures where a sync is the worker's last, and its loop's invariant.
use Rattle.std.proofs.Common.{Some, None, refl, rules}
use Rattle.cj_worker.proofs.Passes.{went_after, extends_after, longer}
use Rattle.cj_worker.proofs.Synced.{all_synced, more_synced, none_synced}
use Rattle.cj_worker.specs.Syncs.{IsSync}
use Rattle.cj_worker.proofs.work.work.Goals as goal

pub returns-in-Some-sync_on : goal.returns-in-Some-sync_on
returns-in-Some-sync_on g c =
    went_after (g.C.Clock.gives c.args.clock.now) (g.G.Gate.may_stop c.args.gate.now) c.args.zones.now c.args.pass
    c.loop.pass (record { pass = c.sync_on.new.pass; end = c.in-Some-sync_on.end })
    c.loop.invariant.longer c.in-Some-sync_on.ensures.longer
    (all_synced (IsSync (g.C.Clock.gives c.args.clock.now) (g.G.Gate.may_stop c.args.gate.now) c.args.zones.now)
    c.args.pass c.loop.pass c.sync_on.new.pass (Some c.in-Some-sync_on.end) c.in-Some-sync_on.end refl
    c.loop.invariant.syncs c.in-Some-sync_on.ensures.synced)
    c.in-Some-sync_on.ensures.ended

pub loop-init : goal.loop-init
loop-init g c =
    let none = none_synced (IsSync (g.C.Clock.gives c.args.clock.now) (g.G.Gate.may_stop c.args.gate.now)
    c.args.zones.now) c.args.pass in
    record { can = search rules; ends = search rules; longer = longer none; syncs = none }

pub loop-preserved : goal.loop-preserved
loop-preserved g c = record {
  can = search rules;
  ends = search rules;
  longer = extends_after c.args.pass c.loop.pass c.sync_on.new.pass c.loop.invariant.longer c.in_default.ensures.longer;
  syncs = more_synced (IsSync (g.C.Clock.gives c.args.clock.now) (g.G.Gate.may_stop c.args.gate.now) c.args.zones.now)
      c.args.pass c.loop.pass c.sync_on.new.pass None refl c.loop.invariant.syncs c.in_default.ensures.synced;
}
