-- Made::note_news, its loop over the receipts: to note what those left tell of gives what to note all gave at first.
use Rattle.std.proofs.Common.{◌≡◌, drop}
use Rattle.cj_run.specs.Made.{noted_news, notes}
use Rattle.cj_run.proofs.made.Made.note_news.Given as goal

abbrev pub invariant-loop-receipt : goal.invariant-loop-receipt
invariant-loop-receipt l =
    noted_news l.runs l.now (drop l.receipt-index l.receipts) (notes l.self.last l.self.counts l.self.running.items)
    ≡ noted_news l.runs l.now l.receipts (notes l.initial.self.last l.initial.self.counts l.initial.self.running.items)
