-- turns_wanted: its loop over n, with the edits of one instant more.
use Rattle.cj_run.proofs.Validated.{instant_more}
use Rattle.cj_run.proofs.validation.turns_wanted.Goals as goal

pub loop-n-preserved : goal.loop-n-preserved
loop-n-preserved c =
    instant_more c.args.simulation.now c.loop-n.n c.loop-n.turns.items c.put_instant.new.turns.items c.loop-n.invariant
    c.in_ok-put_instant.ensures
