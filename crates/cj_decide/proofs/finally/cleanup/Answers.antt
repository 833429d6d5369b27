-- cleanup: its clause ok, that it is the Jobs of others, then those no longer kept.
use Rattle.std.proofs.Common.{◌≡◌, ◌∙◌, ap, List, ◌++◌}
use Rattle.cj_types.specs.declared.cron.CronJob.{CronJob}
use Rattle.cj_types.specs.declared.cron.CronSpec.{CronSpec}
use Rattle.cj_types.specs.declared.job.Job.{Job}
use Rattle.cj_types.specs.Uids.{uid_text}
use Rattle.cj_status.specs.declared.listing.Pick.TheVariants as Meant
use Rattle.cj_status.specs.declared.order.Sorting.TheVariants.{ByName}
use Rattle.cj_status.specs.declared.refs.JobRef.{JobRef}
use Rattle.cj_status.specs.Picked.{picked}
use Rattle.cj_status.specs.Surplus.{surplus_of}
use Rattle.cj_decide.specs.Finally.{limits_of, cleanup_of}
use Rattle.cj_decide.proofs.finally.cleanup.Goals as goal

-- The two lists, by the CronJob's own limits and joined, are its cleanup.
cleans : (cron : CronJob) (jobs : List Job) (spec : CronSpec) (foreign finished all : List JobRef)
    → spec ≡ cron.spec → foreign ≡ picked Meant.Foreign ByName (uid_text cron.meta.uid) jobs
    → finished ≡ surplus_of (limits_of spec) (uid_text cron.meta.uid) jobs → all ≡ foreign ++ finished
    → all ≡ cleanup_of cron jobs
cleans cron jobs spec foreign finished all s f g e =
    e ∙ ap (λ l. l ++ finished) f
    ∙ ap (λ l. picked Meant.Foreign ByName (uid_text cron.meta.uid) jobs ++ l)
    (g ∙ ap (λ (x : CronSpec). surplus_of (limits_of x) (uid_text cron.meta.uid) jobs) s)

pub returns-clause-ok : goal.returns-clause-ok
returns-clause-ok c =
    cleans c.args.cron.now c.args.jobs.now c.get-spec.result.now c.in_ok-all.all
    c.in_ok-finished.finished c.append.new.self
    c.get-spec.ensures c.in_ok-all.ensures.ok c.in_ok-finished.ensures.ok c.in_ok-append.ensures.ok
