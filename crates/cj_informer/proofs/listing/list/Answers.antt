-- list: its clause adds, where ListCrons is refused and where list_jobs comes next.
use Rattle.std.proofs.Common.{rules}
use Rattle.cj_calls.specs.declared.call.Call.TheVariants as Of
use Rattle.cj_calls.specs.declared.reply.Reply.TheVariants as Is
use Rattle.cj_hub.proofs.Runs.{adds-then, adds-weaker}
use Rattle.cj_informer.specs.Outcomes.{HasListed}
use Rattle.cj_informer.proofs.Goes.{handed_on, accepted_as}
use Rattle.cj_informer.proofs.Steps.{not_listed, listed}
use Rattle.cj_informer.proofs.listing.list.Goals as goal

pub returns-in_err-receipt-clause-adds : goal.returns-in_err-receipt-clause-adds
returns-in_err-receipt-clause-adds g c =
    let e = c.in_err-receipt.field-0.0 in
    adds-weaker c.in_err-receipt.ensures.adds (λ es h.
    handed_on c.from_residual.result e (λ r. HasListed c.args.max r es) c.from_residual.ensures.1
    (not_listed c.args.max e es h))

pub returns-clause-adds : goal.returns-clause-adds
returns-clause-adds g c =
    adds-then c.in_ok-receipt.ensures.adds c.list_jobs.ensures.adds (λ es fs h k.
    listed c.args.max c.as_slice.result.now c.in-Ok-Crons.version c.list_jobs.result es fs
    (accepted_as Of.ListCrons c.in_ok-receipt.receipt.entry.answer
    (Is.Crons c.as_slice.result.now c.in-Ok-Crons.version) es h
    (search rules)) k)
