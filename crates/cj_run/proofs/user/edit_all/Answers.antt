-- edit_all: its loop over the edits, at its start and with one edit more gone through.
use Rattle.cj_run.proofs.Done.{edit_more, no_edits}
use Rattle.cj_run.proofs.user.edit_all.Goals as goal

pub loop-one-preserved : goal.loop-one-preserved
loop-one-preserved g c =
    edit_more c.args.zones.now c.args.user.now c.loop-one.user c.edit.new.user c.loop-one.one-index c.args.now
    c.args.edits.now c.one-item.result
    c.loop-one-test.true c.one-item.is c.loop-one.invariant c.in_ok-edit.ensures

pub loop-one-init : goal.loop-one-init
loop-one-init g c = no_edits c.args.zones.now c.args.now c.args.user.now
