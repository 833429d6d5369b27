-- note_entry: its clause ok, where the entry is an accepted claim and where it isn't.
use Rattle.std.proofs.Common.{Result, ◌∙◌, ap}
use Rattle.std.proofs.lemmas.Result.{on_ok_weaker}
use Rattle.cj_base.specs.declared.refusal.Refusal.{Refusal}
use Rattle.cj_calls.specs.declared.call.Call.{Call}
use Rattle.cj_calls.specs.declared.reply.Reply.{Reply}
use Rattle.cj_history.specs.gaps.reading.Known.{has}
use Rattle.cj_history.specs.gaps.Syncs.{plan_in}
use Rattle.cj_history.proofs.GapsLemmas.Whole.{goes_with, goes_without}
use Rattle.cj_history.proofs.gaps.find.note_entry.Goals as goal

pub returns-in-Some-clause-ok : goal.returns-in-Some-clause-ok
returns-in-Some-clause-ok c =
    let entry = c.args.entry.now in
    let sync = c.in-Some.ensures
    ∙ ap (λ (x : Call). plan_in x c.answer.result.now) c.call.ensures.value
    ∙ ap (λ (a : Result Reply Refusal). plan_in entry.call a) c.answer.ensures in
    on_ok_weaker _
    (λ on. goes_with (has c.args.marks.now) entry c.in-Some.plan.now c.args.intervals.now
    c.note_plan.new.intervals c.args.listed.now c.note_plan.new.listed sync on)
    c.note_plan.ensures.ok

pub returns-in-None-clause-ok : goal.returns-in-None-clause-ok
returns-in-None-clause-ok c =
    let entry = c.args.entry.now in
    let sync = c.in-None.ensures
    ∙ ap (λ (x : Call). plan_in x c.answer.result.now) c.call.ensures.value
    ∙ ap (λ (a : Result Reply Refusal). plan_in entry.call a) c.answer.ensures in
    goes_without (has c.args.marks.now) entry c.args.intervals.now c.args.listed.now sync
