-- last_change: that since may be called, and its clause past where the tables have a last row.
use Rattle.std.proofs.Common.{sym, refl}
use Rattle.cj_zone.proofs.TablesLemmas.{past_all, last_early, back_early, back_late}
use Rattle.cj_zone.proofs.changes.last_change.Goals as goal

pub since-requires : goal.since-requires
since-requires c =
    back_early c.in-Some.row.now c.in-Some.row.now.second c.args.at refl
    (last_early c.args.tables.now c.transitions.result.now c.in-Some.row.now c.args.at c.transitions.ensures
    (sym c.in-Some.ensures.value) c.requires)

pub returns-in-Some-clause-past : goal.returns-in-Some-clause-past
returns-in-Some-clause-past c =
    past_all c.args.tables.now c.transitions.result.now c.in-Some.row.now c.since.result c.transitions.ensures
    (sym c.in-Some.ensures.value) (back_late c.in-Some.row.now c.in-Some.row.now.second c.since.result refl
    c.since.ensures.above)
