-- after_all, its loop: those left lead from there on to where all lead from the start.
use Rattle.std.proofs.Common.{◌≡◌, drop}
use Rattle.cj_run.specs.Works.{after_all}
use Rattle.cj_run.specs.declared.work.Stage.TheVariants.{Idle}
use Rattle.cj_run.proofs.work.after_all.Given as goal

abbrev pub invariant-loop-receipt : goal.invariant-loop-receipt
invariant-loop-receipt l = after_all l.stage (drop l.receipt-index l.receipts) ≡ after_all Idle l.receipts
