-- serve_bytes: its clauses served and failed, where the script is read and where it is refused.
use Rattle.cj_program.proofs.Runs.{refusal_failed, refusal_served, run_failed, run_served}
use Rattle.cj_program.proofs.replay.serve_bytes.Goals as goal

pub returns-in-Ok-clause-served : goal.returns-in-Ok-clause-served
returns-in-Ok-clause-served g c = λ lt files input zones read. run_served c.args.replay.now files c.args.given zones
    c.args.bytes.now input read _ _ _ _
    c.in-Ok.script c.in-Ok.ensures.read _ (c.run_script.ensures.well lt)

pub returns-in-Ok-clause-failed : goal.returns-in-Ok-clause-failed
returns-in-Ok-clause-failed g c = λ e files input zones read. run_failed c.args.replay.now files c.args.given zones
    c.args.bytes.now input read _ _ _ _
    c.in-Ok.script c.in-Ok.ensures.read (c.run_script.ensures.badly e)

pub returns-in-Err-clause-served : goal.returns-in-Err-clause-served
returns-in-Err-clause-served g c = λ lt files input zones read.
    refusal_served c.args.replay.now files c.args.given zones c.args.bytes.now input read _ _ _ _ c.in-Err.fault
    c.in-Err.ensures.refused _
    c.refused_scene.result c.refused_scene.ensures.told c.refused_scene.ensures.says (c.give_answer.ensures.given lt)

pub returns-in-Err-clause-failed : goal.returns-in-Err-clause-failed
returns-in-Err-clause-failed g c = λ e files input zones read.
    refusal_failed c.args.replay.now files c.args.given zones c.args.bytes.now input read _ _ _ _ c.in-Err.fault
    c.in-Err.ensures.refused
    c.refused_scene.result c.refused_scene.ensures.told c.refused_scene.ensures.says (c.give_answer.ensures.failed e)
