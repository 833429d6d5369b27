-- serve: its clauses served and failed, for each of the commands.
use Rattle.cj_program.proofs.Formed.{in_form, in_form_by}
use Rattle.cj_program.proofs.Given.{cut, failed_at, replayed_at, served_at}
use Rattle.cj_program.proofs.serving.serve.Goals as goal

pub returns-in-Next-clause-served : goal.returns-in-Next-clause-served
returns-in-Next-clause-served g c = λ lt. served_at c.args.request.now c.args.files.now
    (g.R.Read.remaining c.args.input.now) _ _ _ _ _
    c.in-Next.is c.formed.result _
    (in_form _ c.next_answer-answer.result c.formed.result
    _ c.next_answer-answer.ensures c.formed.ensures) (c.give_answer.ensures.given lt)

pub returns-in-Next-clause-failed : goal.returns-in-Next-clause-failed
returns-in-Next-clause-failed g c = λ e. failed_at c.args.request.now c.args.files.now
    (g.R.Read.remaining c.args.input.now) _ _ _ _ _
    c.in-Next.is (cut _ _ _ _ _ _ _ c.formed.result
    (in_form _ c.next_answer-answer.result c.formed.result _ c.next_answer-answer.ensures c.formed.ensures)
    (c.give_answer.ensures.failed e))

pub returns-in-Check-clause-served : goal.returns-in-Check-clause-served
returns-in-Check-clause-served g c = λ lt. served_at c.args.request.now c.args.files.now
    (g.R.Read.remaining c.args.input.now) _ _ _ _ _
    c.in-Check.is c.formed-in-Check.result _
    (in_form _ c.check_answer-answer.result c.formed-in-Check.result
    _ c.check_answer-answer.ensures c.formed-in-Check.ensures)
    (c.give_answer-in-Check.ensures.given lt)

pub returns-in-Check-clause-failed : goal.returns-in-Check-clause-failed
returns-in-Check-clause-failed g c = λ e. failed_at c.args.request.now c.args.files.now
    (g.R.Read.remaining c.args.input.now) _ _ _ _ _
    c.in-Check.is (cut _ _ _ _ _ _ _ c.formed-in-Check.result
    (in_form _ c.check_answer-answer.result c.formed-in-Check.result
    _ c.check_answer-answer.ensures c.formed-in-Check.ensures)
    (c.give_answer-in-Check.ensures.failed e))

pub returns-in-Plan-clause-served : goal.returns-in-Plan-clause-served
returns-in-Plan-clause-served g c = λ lt. served_at c.args.request.now c.args.files.now
    (g.R.Read.remaining c.args.input.now) _ _ _ _ _
    c.in-Plan.is c.formed-in-Plan.result _
    (in_form _ c.plan_answer-answer.result c.formed-in-Plan.result
    _ c.plan_answer-answer.ensures c.formed-in-Plan.ensures)
    (c.give_answer-in-Plan.ensures.given lt)

pub returns-in-Plan-clause-failed : goal.returns-in-Plan-clause-failed
returns-in-Plan-clause-failed g c = λ e. failed_at c.args.request.now c.args.files.now
    (g.R.Read.remaining c.args.input.now) _ _ _ _ _
    c.in-Plan.is (cut _ _ _ _ _ _ _ c.formed-in-Plan.result
    (in_form _ c.plan_answer-answer.result c.formed-in-Plan.result
    _ c.plan_answer-answer.ensures c.formed-in-Plan.ensures)
    (c.give_answer-in-Plan.ensures.failed e))

pub returns-in-Replay-clause-served : goal.returns-in-Replay-clause-served
returns-in-Replay-clause-served g c = λ lt. replayed_at c.args.request.now c.args.files.now
    (g.R.Read.remaining c.args.input.now) _ _ _ _ _ c.in-Replay.is _ (c.serve_replay.ensures.served lt)

pub returns-in-Replay-clause-failed : goal.returns-in-Replay-clause-failed
returns-in-Replay-clause-failed g c = λ e. failed_at c.args.request.now c.args.files.now
    (g.R.Read.remaining c.args.input.now) _ _ _ _ _
    c.in-Replay.is (c.serve_replay.ensures.failed e)

pub returns-in-Run-clause-served : goal.returns-in-Run-clause-served
returns-in-Run-clause-served g c = λ lt. served_at c.args.request.now c.args.files.now
    (g.R.Read.remaining c.args.input.now) _ _ _ _ _
    c.in-Run.is c.formed_by.result _
    (in_form_by _ _ _ _ c.run_answer-answer.result c.formed_by.result
    _ c.run_answer-answer.ensures c.formed_by.ensures)
    (c.give_answer-in-Run.ensures.given lt)

pub returns-in-Run-clause-failed : goal.returns-in-Run-clause-failed
returns-in-Run-clause-failed g c = λ e. failed_at c.args.request.now c.args.files.now
    (g.R.Read.remaining c.args.input.now) _ _ _ _ _
    c.in-Run.is (cut _ _ _ _ _ _ _ c.formed_by.result
    (in_form_by _ _ _ _ c.run_answer-answer.result c.formed_by.result
    _ c.run_answer-answer.ensures c.formed_by.ensures)
    (c.give_answer-in-Run.ensures.failed e))

pub returns-in-Why-clause-served : goal.returns-in-Why-clause-served
returns-in-Why-clause-served g c = λ lt. served_at c.args.request.now c.args.files.now
    (g.R.Read.remaining c.args.input.now) _ _ _ _ _
    c.in-Why.is c.formed_by-in-Why.result _
    (in_form_by _ _ _ _ c.why_answer-answer.result c.formed_by-in-Why.result
    _ c.why_answer-answer.ensures c.formed_by-in-Why.ensures)
    (c.give_answer-in-Why.ensures.given lt)

pub returns-in-Why-clause-failed : goal.returns-in-Why-clause-failed
returns-in-Why-clause-failed g c = λ e. failed_at c.args.request.now c.args.files.now
    (g.R.Read.remaining c.args.input.now) _ _ _ _ _
    c.in-Why.is (cut _ _ _ _ _ _ _ c.formed_by-in-Why.result
    (in_form_by _ _ _ _ c.why_answer-answer.result c.formed_by-in-Why.result
    _ c.why_answer-answer.ensures c.formed_by-in-Why.ensures)
    (c.give_answer-in-Why.ensures.failed e))

pub returns-in-Audit-clause-served : goal.returns-in-Audit-clause-served
returns-in-Audit-clause-served g c = λ lt. served_at c.args.request.now c.args.files.now
    (g.R.Read.remaining c.args.input.now) _ _ _ _ _
    c.in-Audit.is c.formed_by-in-Audit.result _
    (in_form_by _ _ _ _ c.audit_answer-answer.result c.formed_by-in-Audit.result
    _ c.audit_answer-answer.ensures c.formed_by-in-Audit.ensures)
    (c.give_answer-in-Audit.ensures.given lt)

pub returns-in-Audit-clause-failed : goal.returns-in-Audit-clause-failed
returns-in-Audit-clause-failed g c = λ e. failed_at c.args.request.now c.args.files.now
    (g.R.Read.remaining c.args.input.now) _ _ _ _ _
    c.in-Audit.is (cut _ _ _ _ _ _ _ c.formed_by-in-Audit.result
    (in_form_by _ _ _ _ c.audit_answer-answer.result c.formed_by-in-Audit.result
    _ c.audit_answer-answer.ensures c.formed_by-in-Audit.ensures)
    (c.give_answer-in-Audit.ensures.failed e))

pub returns-in-Upcoming-clause-served : goal.returns-in-Upcoming-clause-served
returns-in-Upcoming-clause-served g c = λ lt. served_at c.args.request.now c.args.files.now
    (g.R.Read.remaining c.args.input.now) _ _ _ _ _
    c.in-Upcoming.is c.formed_by-in-Upcoming.result _
    (in_form_by _ _ _ _ c.upcoming_answer-answer.result c.formed_by-in-Upcoming.result
    _ c.upcoming_answer-answer.ensures c.formed_by-in-Upcoming.ensures)
    (c.give_answer-in-Upcoming.ensures.given lt)

pub returns-in-Upcoming-clause-failed : goal.returns-in-Upcoming-clause-failed
returns-in-Upcoming-clause-failed g c = λ e. failed_at c.args.request.now c.args.files.now
    (g.R.Read.remaining c.args.input.now) _ _ _ _ _
    c.in-Upcoming.is (cut _ _ _ _ _ _ _ c.formed_by-in-Upcoming.result
    (in_form_by _ _ _ _ c.upcoming_answer-answer.result c.formed_by-in-Upcoming.result
    _ c.upcoming_answer-answer.ensures c.formed_by-in-Upcoming.ensures)
    (c.give_answer-in-Upcoming.ensures.failed e))

pub returns-in-Describe-clause-served : goal.returns-in-Describe-clause-served
returns-in-Describe-clause-served g c = λ lt. served_at c.args.request.now c.args.files.now
    (g.R.Read.remaining c.args.input.now) _ _ _ _ _
    c.in-Describe.is c.formed-in-Describe.result _
    (in_form _ c.describing_answer-answer.result c.formed-in-Describe.result
    _ c.describing_answer-answer.ensures c.formed-in-Describe.ensures)
    (c.give_answer-in-Describe.ensures.given lt)

pub returns-in-Describe-clause-failed : goal.returns-in-Describe-clause-failed
returns-in-Describe-clause-failed g c = λ e. failed_at c.args.request.now c.args.files.now
    (g.R.Read.remaining c.args.input.now) _ _ _ _ _
    c.in-Describe.is (cut _ _ _ _ _ _ _ c.formed-in-Describe.result
    (in_form _ c.describing_answer-answer.result c.formed-in-Describe.result
    _ c.describing_answer-answer.ensures c.formed-in-Describe.ensures)
    (c.give_answer-in-Describe.ensures.failed e))

pub returns-in-Previous-clause-served : goal.returns-in-Previous-clause-served
returns-in-Previous-clause-served g c = λ lt. served_at c.args.request.now c.args.files.now
    (g.R.Read.remaining c.args.input.now) _ _ _ _ _
    c.in-Previous.is c.formed-in-Previous.result _
    (in_form _ c.previous_answer-answer.result c.formed-in-Previous.result
    _ c.previous_answer-answer.ensures c.formed-in-Previous.ensures)
    (c.give_answer-in-Previous.ensures.given lt)

pub returns-in-Previous-clause-failed : goal.returns-in-Previous-clause-failed
returns-in-Previous-clause-failed g c = λ e. failed_at c.args.request.now c.args.files.now
    (g.R.Read.remaining c.args.input.now) _ _ _ _ _
    c.in-Previous.is (cut _ _ _ _ _ _ _ c.formed-in-Previous.result
    (in_form _ c.previous_answer-answer.result c.formed-in-Previous.result
    _ c.previous_answer-answer.ensures c.formed-in-Previous.ensures)
    (c.give_answer-in-Previous.ensures.failed e))

pub returns-in-Report-clause-served : goal.returns-in-Report-clause-served
returns-in-Report-clause-served g c = λ lt. served_at c.args.request.now c.args.files.now
    (g.R.Read.remaining c.args.input.now) _ _ _ _ _
    c.in-Report.is c.report_answer.result _ c.report_answer.ensures (c.give_answer-in-Report.ensures.given lt)

pub returns-in-Report-clause-failed : goal.returns-in-Report-clause-failed
returns-in-Report-clause-failed g c = λ e. failed_at c.args.request.now c.args.files.now
    (g.R.Read.remaining c.args.input.now) _ _ _ _ _
    c.in-Report.is (cut _ _ _ _ _ _ _ c.report_answer.result c.report_answer.ensures
    (c.give_answer-in-Report.ensures.failed e))

pub returns-in-Crontab-clause-served : goal.returns-in-Crontab-clause-served
returns-in-Crontab-clause-served g c = λ lt. served_at c.args.request.now c.args.files.now
    (g.R.Read.remaining c.args.input.now) _ _ _ _ _
    c.in-Crontab.is c.crontab_answer.result _ c.crontab_answer.ensures (c.give_answer-in-Crontab.ensures.given lt)

pub returns-in-Crontab-clause-failed : goal.returns-in-Crontab-clause-failed
returns-in-Crontab-clause-failed g c = λ e. failed_at c.args.request.now c.args.files.now
    (g.R.Read.remaining c.args.input.now) _ _ _ _ _
    c.in-Crontab.is (cut _ _ _ _ _ _ _ c.crontab_answer.result c.crontab_answer.ensures
    (c.give_answer-in-Crontab.ensures.failed e))

pub returns-in-Scenario-clause-served : goal.returns-in-Scenario-clause-served
returns-in-Scenario-clause-served g c = λ lt. served_at c.args.request.now c.args.files.now
    (g.R.Read.remaining c.args.input.now) _ _ _ _ _
    c.in-Scenario.is c.scenario_answer.result _ c.scenario_answer.ensures (c.give_answer-in-Scenario.ensures.given lt)

pub returns-in-Scenario-clause-failed : goal.returns-in-Scenario-clause-failed
returns-in-Scenario-clause-failed g c = λ e. failed_at c.args.request.now c.args.files.now
    (g.R.Read.remaining c.args.input.now) _ _ _ _ _
    c.in-Scenario.is (cut _ _ _ _ _ _ _ c.scenario_answer.result c.scenario_answer.ensures
    (c.give_answer-in-Scenario.ensures.failed e))

pub returns-in-Control-clause-served : goal.returns-in-Control-clause-served
returns-in-Control-clause-served g c = λ lt. served_at c.args.request.now c.args.files.now
    (g.R.Read.remaining c.args.input.now) _ _ _ _ _
    c.in-Control.is c.no_answer.result _ c.no_answer.ensures (c.give_answer-in-Control.ensures.given lt)

pub returns-in-Control-clause-failed : goal.returns-in-Control-clause-failed
returns-in-Control-clause-failed g c = λ e. failed_at c.args.request.now c.args.files.now
    (g.R.Read.remaining c.args.input.now) _ _ _ _ _
    c.in-Control.is (cut _ _ _ _ _ _ _ c.no_answer.result c.no_answer.ensures
    (c.give_answer-in-Control.ensures.failed e))
