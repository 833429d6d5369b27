-- note_strays: its clause ok of a list without CronJobs.
use Rattle.std.proofs.Common.{◌∙◌, sym}
use Rattle.std.specs.FinMap as map
use Rattle.cj_audit.proofs.Untold.{untold}
use Rattle.cj_audit.proofs.stray.note_strays.Goals as goal

pub returns-else-branch-clause-ok : goal.returns-else-branch-clause-ok
returns-else-branch-clause-ok c =
    untold c.args.cluster.now c.args.refused.now (sym c.in_ok-tells_crons.ensures.ok ∙ c.if-branch.false)
    (map.values c.args.cluster.now.jobs) c.args.notes.now
