-- take_steps: its loop; at each turn the calls of the steps passed were added, all accepted.
use Rattle.std.proofs.Common.{map, take}
use Rattle.cj_hub.specs.Runs.{Adds}
use Rattle.cj_worker.specs.Outlines.{call_by}
use Rattle.cj_worker.specs.Sequences.{AllAccepted}
use Rattle.cj_worker.proofs.steps.take_steps.Given as goal

abbrev pub invariant-loop-step : goal.invariant-loop-step
invariant-loop-step g l =
    Adds g.D.Desk.tells (g.D.Desk.history l.initial.desk) (g.D.Desk.history l.desk) l.initial.pass l.pass
    (AllAccepted (map call_by (take l.step-index l.steps)))
