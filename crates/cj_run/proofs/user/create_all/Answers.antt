-- create_all: its loop over the drafts, with one CronJob more created.
use Rattle.cj_run.proofs.Done.{create_more}
use Rattle.cj_run.proofs.user.create_all.Goals as goal

pub loop-draft-preserved : goal.loop-draft-preserved
loop-draft-preserved g c =
    create_more c.args.zones.now c.args.user.now c.loop-draft.user c.create.new.user c.loop-draft.draft-index c.args.at
    c.args.drafts.now c.draft-item.result
    c.loop-draft-test.true c.draft-item.is c.loop-draft.invariant c.in_ok-create.ensures
