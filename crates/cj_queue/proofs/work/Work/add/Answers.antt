-- Work::add: its clause row, by whether the key is being worked on, and the type's invariant where it is not.
use Rattle.std.proofs.Common.{◌≡◌, Some, sym, ap, ◌∙◌, subst}
use Rattle.cj_queue.specs.declared.stage.Stage.TheVariants.{Again}
use Rattle.cj_queue.specs.Queue.{row_add}
use Rattle.cj_queue.specs.Parts.{IsFree, HasStage, row_of, with_last}
use Rattle.cj_queue.proofs.LineLemmas.{on_true, on_false}
use Rattle.cj_queue.proofs.StageLemmas.{none_of, ok_part, added_free, added_held, free_last}
use Rattle.cj_queue.proofs.work.Work.add.Goals as goal

pub invariant_of-self : goal.invariant_of-self
invariant_of-self c =
    let busy = c.self.inside.busy.entries in
    let line = c.self.inside.line.keys in
    let now = c.note_add.new.busy.entries in
    let free = c.if-not-note_add.true in
    let none = none_of _ (sym c.note_add.ensures.held ∙ free) in
    let stays : now ≡ busy = on_false c.note_add.result _ free c.note_add.ensures.stays in
    let put : c.add.new.self.keys ≡ with_last line c.args.key =
    ok_part c.add.result c.unwrap.result _ c.unwrap.ensures c.add.ensures.ok in
    subst (λ l. IsFree l now) (sym put)
    (subst (λ b. IsFree (with_last line c.args.key) b) (sym stays)
    (free_last line busy c.args.key c.self.invariant none))

pub returns-then-not-note_add-clause-row : goal.returns-then-not-note_add-clause-row
returns-then-not-note_add-clause-row c =
    let busy = c.self.inside.busy.entries in
    let line = c.self.inside.line.keys in
    let free = c.if-not-note_add.true in
    let none = none_of _ (sym c.note_add.ensures.held ∙ free) in
    let stays : c.note_add.new.busy.entries ≡ busy = on_false c.note_add.result _ free c.note_add.ensures.stays in
    let put : c.add.new.self.keys ≡ with_last line c.args.key =
    ok_part c.add.result c.unwrap.result _ c.unwrap.ensures c.add.ensures.ok in
    (λ i. row_of (put i) (stays i)) ∙ sym (added_free line busy c.args.key c.self.invariant none)
    ∙ ap (λ v. row_add v.row c.args.key) c.self.view_is

pub returns-else-not-note_add-clause-row : goal.returns-else-not-note_add-clause-row
returns-else-not-note_add-clause-row c =
    let busy = c.self.inside.busy.entries in
    let now = c.note_add.new.busy.entries in
    let held = c.if-not-note_add.false in
    let again : HasStage busy now c.args.key (Some Again) = on_true c.note_add.result _ held c.note_add.ensures.again in
    sym (added_held c.self.inside.line.keys busy now c.args.key (sym c.note_add.ensures.held ∙ held) again)
    ∙ ap (λ v. row_add v.row c.args.key) c.self.view_is
