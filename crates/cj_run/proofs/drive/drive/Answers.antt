-- drive: its loop over n, with the instant n run.
use Rattle.cj_run.specs.Drivers.{watch_of}
use Rattle.cj_run.proofs.Done.{done_more}
use Rattle.cj_run.proofs.Went.{round_more}
use Rattle.cj_run.proofs.drive.drive.Goals as goal

pub loop-n-preserved : goal.loop-n-preserved
loop-n-preserved g c = record {
  did = done_more c.args.simulation.now c.args.driver.now.user c.loop-n.driver.user
      c.run_instant_at.new.driver.user c.loop-n.n c.loop-n.invariant.did c.in_ok-run_instant_at.ensures.edits;
  rounds = round_more c.args.simulation.now c.loop-n.n c.args.driver.now.follower c.loop-n.driver.follower
      c.run_instant_at.new.driver.follower (watch_of c.args.driver.now) (watch_of c.loop-n.driver)
      (watch_of c.run_instant_at.new.driver) c.loop-n.invariant.rounds c.in_ok-run_instant_at.ensures.round;
  last = c.in_ok-run_instant_at.ensures.last;
}
