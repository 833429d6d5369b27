-- create_all, its loop over the drafts: the user created the CronJobs of those gone through.
use Rattle.std.proofs.Common.{take}
use Rattle.cj_run.specs.Simulations.{creations}
use Rattle.cj_run.specs.Actions.{Does}
use Rattle.cj_run.proofs.user.create_all.Given as goal

abbrev pub invariant-loop-draft : goal.invariant-loop-draft
invariant-loop-draft g l = Does l.zones (creations l.at (take l.draft-index l.drafts)) l.initial.user l.user
