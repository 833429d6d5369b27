-- serve_lines: its clauses served and failed where a rule of the words is refused.
use Rattle.std.proofs.Common.{subst}
use Rattle.std.specs.Prelude.{MatchOption, []}
use Rattle.cj_answers.specs.Given.{IsNoneGiven, IsReadUnder}
use Rattle.cj_program.proofs.Runs.{rule_failed, rule_served}
use Rattle.cj_program.proofs.replay.serve_lines.Goals as goal

pub returns-in-Ok-None-clause-served : goal.returns-in-Ok-None-clause-served
returns-in-Ok-None-clause-served g c = λ lt.
    let r = c.args.replay.now in
    let none : IsNoneGiven r.zones [] =
    subst (λ o. MatchOption o (IsNoneGiven r.zones []) (IsReadUnder r.zones c.args.files.now)) c.in-Ok-None.field-0-is
    c.in-Ok-None.ensures in
    rule_served r c.args.files.now (g.R.Read.remaining c.args.input.now) _ _ _ _ none _ c.refused_pair.result
    c.refused_pair.ensures (c.give_answer.ensures.given lt)

pub returns-in-Ok-None-clause-failed : goal.returns-in-Ok-None-clause-failed
returns-in-Ok-None-clause-failed g c = λ e.
    let r = c.args.replay.now in
    let none : IsNoneGiven r.zones [] =
    subst (λ o. MatchOption o (IsNoneGiven r.zones []) (IsReadUnder r.zones c.args.files.now)) c.in-Ok-None.field-0-is
    c.in-Ok-None.ensures in
    rule_failed r c.args.files.now (g.R.Read.remaining c.args.input.now) _ _ _ _ none c.refused_pair.result
    c.refused_pair.ensures (c.give_answer.ensures.failed e)
