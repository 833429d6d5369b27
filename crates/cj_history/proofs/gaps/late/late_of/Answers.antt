-- late_of: its loop goes on with what is late of a CronJob more, and its clause ok.
use Rattle.std.proofs.Common.{◌≡◌, ◌+◌, ◌++◌, List, [], ◌∷◌, take, take_all, subst, arith}
use Rattle.std.proofs.lemmas.Grind.{common_steps}
use Rattle.cj_history.specs.declared.gaps.late.Standing.{Standing}
use Rattle.cj_history.specs.gaps.reading.Known.{has}
use Rattle.cj_history.specs.gaps.reading.Listed.{AreLateFrom}
use Rattle.cj_history.proofs.GapsLemmas.Late.{late_more}
use Rattle.cj_history.proofs.gaps.late.late_of.Goals as goal

pub loop-one-preserved : goal.loop-one-preserved
loop-one-preserved c =
    let past = take c.loop-one.one-index c.args.standing.now in
    let more : past ++ (c.one-item.result ∷ []) ≡ take (c.loop-one.one-index + 1) c.args.standing.now
    = grind (arith, common_steps) in
    subst (λ (xs : List Standing). AreLateFrom (has c.args.marks.now) c.args.listed.now c.args.at xs
    c.note_standing.new.late.items) more
    (late_more (has c.args.marks.now) c.args.listed.now c.args.at past c.one-item.result c.loop-one.late.items
    c.note_standing.new.late.items c.loop-one.invariant c.in_ok-note_standing.ensures.ok)

pub returns-clause-ok : goal.returns-clause-ok
returns-clause-ok c =
    subst (λ (xs : List Standing). AreLateFrom (has c.args.marks.now) c.args.listed.now c.args.at xs
    c.loop-one.late.items)
    (take_all c.loop-one.one-index c.args.standing.now (omega arith)) c.loop-one.invariant
