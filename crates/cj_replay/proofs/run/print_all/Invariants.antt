-- print_all: its loop; at each turn the steps so far were made and printed, and the limits are those of the
-- beginning.
use Rattle.std.proofs.Common.{◌≡◌, take}
use Rattle.cj_replay.specs.Printing.{HasPlayed}
use Rattle.cj_replay.proofs.run.print_all.Given as goal

abbrev pub invariant-loop-step : goal.invariant-loop-step
invariant-loop-step g l = record {
  limits : l.world.limits ≡ l.initial.world.limits;
  stepped : HasPlayed l.zones l.initial.world.limits l.initial.world.history
      (take l.step-index l.steps) l.is_full l.world.history (g.W.Write.contents l.initial.out)
      (g.W.Write.contents l.out) l.pending;
}
