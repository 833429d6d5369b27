-- Work::take: its clause ok and the type's invariant, where the line has a first key.
use Rattle.std.proofs.Common.{Some, sym, ap, ◌∙◌, subst}
use Rattle.cj_queue.specs.declared.stage.Stage.TheVariants.{Held}
use Rattle.cj_queue.specs.Queue.{row_take}
use Rattle.cj_queue.specs.Parts.{HasStage}
use Rattle.cj_queue.proofs.StageLemmas.{taken, free_taken}
use Rattle.cj_queue.proofs.work.Work.take.Goals as goal

pub invariant_of-self-2 : goal.invariant_of-self-2
invariant_of-self-2 c =
    let key = c.in-Some-pop.key in
    let held = subst (λ b. HasStage b c.hold.new.busy.entries key (Some Held)) c.reserve.ensures.entries
    c.hold.ensures in
    free_taken c.self.inside.line.keys c.pop.new.self.keys c.self.inside.busy.entries c.hold.new.busy.entries key
    c.self.invariant (sym c.in-Some-pop.ensures.keys) held

pub returns-clause-ok : goal.returns-clause-ok
returns-clause-ok c =
    let key = c.in-Some-pop.key in
    let held = subst (λ b. HasStage b c.hold.new.busy.entries key (Some Held)) c.reserve.ensures.entries
    c.hold.ensures in
    sym (taken c.self.inside.line.keys c.pop.new.self.keys c.self.inside.busy.entries c.hold.new.busy.entries key
    c.self.invariant (sym c.in-Some-pop.ensures.keys) held)
    ∙ ap (λ v. row_take v.row) c.self.view_is
