-- list_jobs: its clause adds, where ListJobs is refused and where catch_up comes next.
use Rattle.std.proofs.Common.{rules}
use Rattle.cj_calls.specs.declared.call.Call.TheVariants as Of
use Rattle.cj_calls.specs.declared.reply.Reply.TheVariants as Is
use Rattle.cj_hub.proofs.Runs.{adds-then, adds-weaker}
use Rattle.cj_informer.specs.Outcomes.{HasListedJobs}
use Rattle.cj_informer.proofs.Goes.{handed_on, accepted_as}
use Rattle.cj_informer.proofs.Steps.{jobs_not_listed, jobs_listed}
use Rattle.cj_informer.proofs.listing.list_jobs.Goals as goal

pub returns-in_err-receipt-clause-adds : goal.returns-in_err-receipt-clause-adds
returns-in_err-receipt-clause-adds g c =
    let e = c.in_err-receipt.field-0.0 in
    adds-weaker c.in_err-receipt.ensures.adds (λ es h.
    handed_on c.from_residual.result e (λ r. HasListedJobs c.args.max c.args.seen c.args.crons.now r es)
    c.from_residual.ensures.1
    (jobs_not_listed c.args.max c.args.seen c.args.crons.now e es h))

pub returns-clause-adds : goal.returns-clause-adds
returns-clause-adds g c =
    adds-then c.in_ok-receipt.ensures.adds c.catch_up.ensures.adds (λ es fs h k.
    jobs_listed c.args.max c.args.seen c.args.crons.now c.as_slice.result.now c.in-Ok-Jobs._version c.catch_up.result es
    fs
    (accepted_as Of.ListJobs c.in_ok-receipt.receipt.entry.answer (Is.Jobs c.as_slice.result.now c.in-Ok-Jobs._version)
    es h
    (search rules)) k)
