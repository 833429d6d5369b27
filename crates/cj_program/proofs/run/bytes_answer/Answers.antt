-- bytes_answer: its ensures, where the scenario is read and where the bytes are refused.
use Rattle.cj_program.proofs.Scenes.{simulation_refused}
use Rattle.cj_program.proofs.run.bytes_answer.Goals as goal

pub returns-in-Err : goal.returns-in-Err
returns-in-Err g c = simulation_refused c.args.run.now c.args.given c.args.bytes.now c.in-Err.fault
    c.refused_scene.result c.in-Err.ensures.refused c.refused_scene.ensures.told c.refused_scene.ensures.says

pub returns-in-Ok : goal.returns-in-Ok
returns-in-Ok g c = c.answered.ensures c.args.given c.in-Ok.ensures.read
