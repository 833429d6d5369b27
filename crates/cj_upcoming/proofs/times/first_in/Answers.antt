-- first_in: its clauses, where the first instant isn't due, by the first of the due times after it.
use Rattle.std.proofs.Common.{Some, refl, sym, ◌∙◌}
use Rattle.cj_upcoming.proofs.Walks.{next_least, next_left, next_none, first_least, quiet_from}
use Rattle.cj_upcoming.proofs.times.first_in.Goals as goal

pub returns-clause-first : goal.returns-clause-first
returns-clause-first c =
    let s = c.args.schedule.now in
    let z = c.args.zone.now in
    first_least s z c.args.end c.args.from c.next-first.result c.requires (sym c.is_due.ensures ∙ c.if-is_due.false)
    (next_least s z c.args.end (Some c.args.from) c.args.from _ _ _ refl c.new-times.ensures c.next-first.ensures.steps)

pub returns-clause-left : goal.returns-clause-left
returns-clause-left c =
    next_left c.args.schedule.now c.args.zone.now c.args.end (Some c.args.from) c.args.from _ _ _ refl
    c.new-times.ensures c.next-first.ensures.steps

pub returns-clause-none : goal.returns-clause-none
returns-clause-none c = λ none.
    let s = c.args.schedule.now in
    let z = c.args.zone.now in
    quiet_from s z c.args.end c.args.from (sym c.is_due.ensures ∙ c.if-is_due.false)
    (next_none s z c.args.end (Some c.args.from) c.args.from _ _ _ refl c.new-times.ensures c.next-first.ensures.steps
    none)
