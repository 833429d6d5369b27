-- put_edits: its loop over the edits, at its start and with one edit more.
use Rattle.cj_run.proofs.Validated.{wanted_more, wanted_none}
use Rattle.cj_run.proofs.validation.put_edits.Goals as goal

pub loop-edit-preserved : goal.loop-edit-preserved
loop-edit-preserved c =
    wanted_more c.args.at c.args.n c.loop-edit.edit-index c.args.edits.now c.edit-item.result c.args.turns.now.items
    c.loop-edit.turns.items c.put_edit.new.turns.items c.loop-edit-test.true c.edit-item.is c.loop-edit.invariant
    c.in_ok-put_edit.ensures

pub loop-edit-init : goal.loop-edit-init
loop-edit-init c = wanted_none c.args.at c.args.n c.args.turns.now.items
