-- run_script: its clauses well and badly where the script was run, and badly where the run failed.
use Rattle.cj_program.proofs.Runs.{cut, ends_well, fills}
use Rattle.cj_program.proofs.replay.run_script.Goals as goal

pub returns-in-Ok-clause-well : goal.returns-in-Ok-clause-well
returns-in-Ok-clause-well g c = λ lt.
    let w = c.end_of.ensures.well lt in
    (w.0, ends_well c.args.script.now _ _ _ _ c.in-Ok.is_full w.1 c.in-Ok.ensures.whole w.2)

pub returns-in-Ok-clause-badly : goal.returns-in-Ok-clause-badly
returns-in-Ok-clause-badly g c = λ e.
    let f = c.end_of.ensures.full e in
    fills c.args.script.now _ _ _ _ c.in-Ok.is_full f.0 c.in-Ok.ensures.whole f.1

pub returns-in-Err-clause-badly : goal.returns-in-Err-clause-badly
returns-in-Err-clause-badly g c = λ e. cut c.args.script.now _ _ _ _ c.in-Err.failure c.in-Err.ensures.begun
    c.tell_failure.ensures.told
