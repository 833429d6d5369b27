-- add_listed: its clause adds, where the CronJobs' Adds break off and where the Jobs' come next.
use Rattle.std.specs.List.{filter_map}
use Rattle.cj_hub.proofs.Runs.{adds-then, adds-weaker}
use Rattle.cj_informer.specs.Exchanges.{Goes}
use Rattle.cj_informer.specs.Informs.{adds, add_both, key_of_cron, key_of_job}
use Rattle.cj_informer.proofs.Goes.{goes-then, breaks-longer, handed_on}
use Rattle.cj_informer.proofs.adding.add_listed.Goals as goal

pub returns-in_err-add_all-clause-adds : goal.returns-in_err-add_all-clause-adds
returns-in_err-add_all-clause-adds g c =
    let e = c.in_err-add_all.field-0.0 in
    adds-weaker c.in_err-add_all.ensures.adds (λ es h.
    handed_on c.from_residual.result e (λ r. Goes (add_both c.args.crons.now c.args.jobs.now) r es)
    c.from_residual.ensures.1
    (breaks-longer (adds (filter_map key_of_cron c.args.crons.now)) (adds (filter_map key_of_job c.args.jobs.now)) e es
    h))

pub returns-clause-adds : goal.returns-clause-adds
returns-clause-adds g c =
    adds-then c.in_ok-add_all.ensures.adds c.add_all-2.ensures.adds
    (λ es fs h k. goes-then (adds (filter_map key_of_cron c.args.crons.now))
    (adds (filter_map key_of_job c.args.jobs.now)) c.add_all-2.result es fs h k)
