-- scene_answer: its ensures, where the scenario is read and where it is refused.
use Rattle.cj_answers.specs.as_json.Forms.{is_json}
use Rattle.cj_check.proofs.Scenes.{scenario_refused}
use Rattle.cj_check.proofs.plan.scene_answer.Goals as goal

pub returns-in-Err : goal.returns-in-Err
returns-in-Err c =
    scenario_refused c.args.explain c.args.given c.args.bytes.now c.in-Err.fault (is_json c.args.output.now) c.args.now
    c.refused_scene.result
    c.in-Err.ensures.refused c.refused_scene.ensures.told c.refused_scene.ensures.says

pub returns-in-Ok : goal.returns-in-Ok
returns-in-Ok c = c.scene_planned.ensures c.args.given c.in-Ok.ensures.read
