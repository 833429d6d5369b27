-- Made::note_news: its loop over the receipts, with one receipt more.
use Rattle.std.proofs.Common.{◌∙◌, ap}
use Rattle.cj_run.specs.Made.{noted_told, notes}
use Rattle.cj_run.proofs.Noted.{news_more}
use Rattle.cj_run.proofs.made.Made.note_news.Goals as goal

pub loop-receipt-preserved : goal.loop-receipt-preserved
loop-receipt-preserved c =
    let before = notes c.loop-receipt.self.last c.loop-receipt.self.counts c.loop-receipt.self.running.items in
    let after = c.note_told.new.self in
    news_more c.args.runs.now c.args.now c.args.receipts.now c.loop-receipt.receipt-index c.receipt-item.result
    before (notes after.last after.counts after.running.items)
    c.loop-receipt-test.true c.receipt-item.is
    (c.in_ok-note_told.ensures.ok ∙ ap (λ a. noted_told c.args.runs.now c.args.now a before) c.answer.ensures)
    ∙ c.loop-receipt.invariant
