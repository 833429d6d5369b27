-- serve_replay: its clauses served and failed, as one value, in lines, and in a form that there is none of.
use Rattle.std.proofs.Common.{◌∙◌, sym, true, false}
use Rattle.cj_program.proofs.Formed.{in_form}
use Rattle.cj_program.proofs.Replays.{answer_failed, answer_served, lines_failed, lines_served, no_form}
use Rattle.cj_program.proofs.replay.serve_replay.Goals as goal

pub returns-then-is_json-clause-served : goal.returns-then-is_json-clause-served
returns-then-is_json-clause-served g c = λ lt. answer_served c.args.replay.now c.args.files.now
    (g.R.Read.remaining c.args.input.now) _ _ _ _ true (sym c.is_json.ensures ∙ c.if-is_json.true) c.formed.result _
    (in_form _ c.replay_answer-answer.result c.formed.result _ c.replay_answer-answer.ensures c.formed.ensures)
    (c.give_answer.ensures.given lt)

pub returns-then-is_json-clause-failed : goal.returns-then-is_json-clause-failed
returns-then-is_json-clause-failed g c = λ e. answer_failed c.args.replay.now c.args.files.now
    (g.R.Read.remaining c.args.input.now) _ _ _ _ true (sym c.is_json.ensures ∙ c.if-is_json.true) c.formed.result
    (in_form _ c.replay_answer-answer.result c.formed.result _ c.replay_answer-answer.ensures c.formed.ensures)
    (c.give_answer.ensures.failed e)

pub returns-then-is_form-clause-served : goal.returns-then-is_form-clause-served
returns-then-is_form-clause-served g c = λ lt. lines_served c.args.replay.now c.args.files.now
    (g.R.Read.remaining c.args.input.now) _ _ _ _ (sym c.is_json.ensures ∙ c.if-is_json.false)
    (sym c.is_form.ensures ∙ c.if-is_form.true) _ (c.serve_lines.ensures.served lt)

pub returns-then-is_form-clause-failed : goal.returns-then-is_form-clause-failed
returns-then-is_form-clause-failed g c = λ e. lines_failed c.args.replay.now c.args.files.now
    (g.R.Read.remaining c.args.input.now) _ _ _ _ (sym c.is_json.ensures ∙ c.if-is_json.false)
    (sym c.is_form.ensures ∙ c.if-is_form.true) (c.serve_lines.ensures.failed e)

pub returns-else-is_form-clause-served : goal.returns-else-is_form-clause-served
returns-else-is_form-clause-served g c = λ lt. answer_served c.args.replay.now c.args.files.now
    (g.R.Read.remaining c.args.input.now) _ _ _ _ false (sym c.is_json.ensures ∙ c.if-is_json.false)
    c.refused_form.result _
    (no_form c.args.replay.now c.args.files.now (g.R.Read.remaining c.args.input.now)
    (sym c.is_form.ensures ∙ c.if-is_form.false) c.refused_form.result c.refused_form.ensures)
    (c.give_answer-else-is_form.ensures.given lt)

pub returns-else-is_form-clause-failed : goal.returns-else-is_form-clause-failed
returns-else-is_form-clause-failed g c = λ e. answer_failed c.args.replay.now c.args.files.now
    (g.R.Read.remaining c.args.input.now) _ _ _ _ false (sym c.is_json.ensures ∙ c.if-is_json.false)
    c.refused_form.result
    (no_form c.args.replay.now c.args.files.now (g.R.Read.remaining c.args.input.now)
    (sym c.is_form.ensures ∙ c.if-is_form.false) c.refused_form.result c.refused_form.ensures)
    (c.give_answer-else-is_form.ensures.failed e)
