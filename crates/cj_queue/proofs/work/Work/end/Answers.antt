-- Work::end: its clause row, by whether the key was added again, and the type's invariant where it was.
use Rattle.std.proofs.Common.{◌≡◌, sym, ap, ◌∙◌, subst}
use Rattle.cj_queue.specs.Queue.{row_end, has}
use Rattle.cj_queue.specs.Parts.{IsFree, row_of, with_last}
use Rattle.cj_queue.proofs.StageLemmas.{held_at, none_at, ok_part, ended_again, ended_clean, free_ended, free_last}
use Rattle.cj_queue.proofs.work.Work.end.Goals as goal

pub invariant_of-self : goal.invariant_of-self
invariant_of-self c =
    let line = c.self.inside.line.keys in
    let busy = c.self.inside.busy.entries in
    let now = c.release.new.busy.entries in
    let key = c.args.key.now in
    let put : c.add.new.self.keys ≡ with_last line c.in-Some.again =
    ok_part c.add.result c.unwrap.result _ c.unwrap.ensures c.add.ensures.ok in
    subst (λ l. IsFree l now) (sym (put ∙ ap (with_last line) c.in-Some.ensures.key))
    (free_last line now key (free_ended line busy now key c.self.invariant c.release.ensures.ended)
    (none_at busy now key c.release.ensures.ended))

pub returns-in-Some-clause-row : goal.returns-in-Some-clause-row
returns-in-Some-clause-row c =
    let line = c.self.inside.line.keys in
    let now = c.release.new.busy.entries in
    let key = c.args.key.now in
    let put : c.add.new.self.keys ≡ with_last line c.in-Some.again =
    ok_part c.add.result c.unwrap.result _ c.unwrap.ensures c.add.ensures.ok in
    ap (λ l. row_of l now) (put ∙ ap (with_last line) c.in-Some.ensures.key)
    ∙ sym (ended_again line c.self.inside.busy.entries now key c.self.invariant (sym c.in-Some.ensures.again)
    c.release.ensures.ended)
    ∙ ap (λ v. row_end v.row key) c.self.view_is

pub returns-in_default-clause-row : goal.returns-in_default-clause-row
returns-in_default-clause-row c =
    let busy = c.self.inside.busy.entries in
    let key = c.args.key.now in
    let held = sym (held_at busy key) ∙ ap (λ v. has v.row.processing key) c.self.view_is ∙ c.requires.held in
    sym (ended_clean c.self.inside.line.keys busy c.release.new.busy.entries key c.self.invariant held
    (sym c.in_default.ensures.again) c.release.ensures.ended)
    ∙ ap (λ v. row_end v.row key) c.self.view_is
