-- bytes_answer: its ensures, where the script is read and where the bytes are refused.
use Rattle.cj_program.proofs.Scenes.{script_refused}
use Rattle.cj_program.proofs.played.bytes_answer.Goals as goal

pub returns-in-Err : goal.returns-in-Err
returns-in-Err c = script_refused c.args.explain c.args.given c.args.bytes.now c.in-Err.fault
    c.refused_scene.result c.in-Err.ensures.refused c.refused_scene.ensures.told c.refused_scene.ensures.says

pub returns-in-Ok : goal.returns-in-Ok
returns-in-Ok c = c.script_answer.ensures c.args.given c.in-Ok.ensures.read
