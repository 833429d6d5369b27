-- drive, its loop over n: the user created the CronJobs and did the edits of the first n instants, in which the
-- runners went their rounds and the informer followed, and all is at rest.
use Rattle.std.proofs.Common.{◌≡◌}
use Rattle.cj_run.specs.Simulations.{operations_below}
use Rattle.cj_run.specs.Actions.{Does}
use Rattle.cj_run.specs.Drivers.{watch_of}
use Rattle.cj_run.specs.Rounds.{GoesRounds}
use Rattle.cj_run.specs.declared.drive.LastDone.TheVariants.{Rest}
use Rattle.cj_run.proofs.drive.drive.Given as goal

abbrev pub invariant-loop-n : goal.invariant-loop-n
invariant-loop-n g l = record {
  did : Does l.simulation.zones (operations_below l.simulation l.n) l.fn.driver.user l.driver.user;
  rounds : GoesRounds l.simulation l.n l.fn.driver.follower l.driver.follower
      (watch_of l.fn.driver) (watch_of l.driver);
  last : l.driver.last ≡ Rest;
}
