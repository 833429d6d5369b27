-- edit_all, its loop over the edits: the user did those gone through that are of this moment.
use Rattle.std.proofs.Common.{take}
use Rattle.cj_run.specs.Simulations.{edits_at}
use Rattle.cj_run.specs.Actions.{Does}
use Rattle.cj_run.proofs.user.edit_all.Given as goal

abbrev pub invariant-loop-one : goal.invariant-loop-one
invariant-loop-one g l = Does l.zones (edits_at (take l.one-index l.edits) l.now) l.initial.user l.user
