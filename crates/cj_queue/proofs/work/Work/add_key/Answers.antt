-- Work::add_key: its clause ok, by whether the key is being worked on, and the type's invariant where it is not.
use Rattle.std.proofs.Common.{◌≡◌, Some, sym, ap, ◌∙◌, subst}
use Rattle.cj_queue.specs.declared.stage.Stage.TheVariants.{Again}
use Rattle.cj_queue.specs.Queue.{row_add}
use Rattle.cj_queue.specs.Parts.{stage_of, IsFree, HasStage, row_of}
use Rattle.cj_queue.proofs.LineLemmas.{on_true, on_false}
use Rattle.cj_queue.proofs.Ready.{on_ok}
use Rattle.cj_queue.proofs.StageLemmas.{none_of, added_free, added_held, free_add}
use Rattle.cj_queue.proofs.work.Work.add_key.Goals as goal

pub returns-then-note_add-clause-ok : goal.returns-then-note_add-clause-ok
returns-then-note_add-clause-ok c =
    let busy = c.self.inside.busy.entries in
    let now = c.note_add.new.busy.entries in
    let held = c.if-note_add.true in
    let again : HasStage busy now c.args.key.now (Some Again) =
    on_true c.note_add.result _ held c.note_add.ensures.again in
    sym (added_held c.self.inside.line.keys busy now c.args.key.now (sym c.note_add.ensures.held ∙ held) again)
    ∙ ap (λ v. row_add v.row c.args.key.now) c.self.view_is

pub invariant_of-self-2 : goal.invariant_of-self-2
invariant_of-self-2 c =
    let busy = c.self.inside.busy.entries in
    let copy = c.in_ok-copy.copy in
    let free = c.if-note_add.false in
    let none : stage_of busy copy ≡ _ = ap (stage_of busy) c.in_ok-copy.ensures.ok
    ∙ none_of _ (sym c.note_add.ensures.held ∙ free) in
    let stays : c.note_add.new.busy.entries ≡ busy = on_false c.note_add.result _ free c.note_add.ensures.stays in
    subst (λ b. IsFree c.add.new.self.keys b) (sym stays)
    (free_add c.add.result c.self.inside.line.keys c.add.new.self.keys busy copy c.self.invariant none
    c.add.ensures.ok c.add.ensures.err)

pub returns-clause-ok : goal.returns-clause-ok
returns-clause-ok c =
    let busy = c.self.inside.busy.entries in
    let line = c.self.inside.line.keys in
    let copy = c.in_ok-copy.copy in
    let free = c.if-note_add.false in
    let none : stage_of busy copy ≡ _ = ap (stage_of busy) c.in_ok-copy.ensures.ok
    ∙ none_of _ (sym c.note_add.ensures.held ∙ free) in
    let stays : c.note_add.new.busy.entries ≡ busy = on_false c.note_add.result _ free c.note_add.ensures.stays in
    on_ok c.add.result _ _
    (λ put. (λ i. row_of (put i) (stays i)) ∙ sym (added_free line busy copy c.self.invariant none)
    ∙ ap (row_add (row_of line busy)) c.in_ok-copy.ensures.ok
    ∙ ap (λ v. row_add v.row c.args.key.now) c.self.view_is)
    c.add.ensures.ok
