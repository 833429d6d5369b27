-- Marks::note: its clause ok, as the mark is told before the claim is kept.
use Rattle.std.proofs.Common.{Option, Result, ap, subst, ◌∙◌}
use Rattle.std.proofs.lemmas.Result.{on_ok_weaker}
use Rattle.cj_base.specs.declared.refusal.Refusal.{Refusal}
use Rattle.cj_calls.specs.declared.call.Call.{Call}
use Rattle.cj_calls.specs.declared.caller.Caller.{Caller}
use Rattle.cj_calls.specs.declared.reply.Reply.{Reply}
use Rattle.cj_history.specs.declared.gaps.mark.Mark.{Mark}
use Rattle.cj_history.specs.declared.gaps.mark.Start.{Start}
use Rattle.cj_history.specs.gaps.reading.Known as known
use Rattle.cj_history.specs.gaps.reading.Known.{Tells}
use Rattle.cj_history.specs.gaps.Marks as said
use Rattle.cj_history.proofs.GapsLemmas.Known.{knows_more}
use Rattle.cj_history.proofs.gaps.marks.Marks.note.Goals as goal

pub returns-clause-ok : goal.returns-clause-ok
returns-clause-ok c =
    let entry = c.args.entry.now in
    let was = c.args.self.now in
    let told = c.tell.new.self in
    let start = c.start_in-start.result in
    let making = c.making_mark-making.result in
    let before = known.claim_by was.claims c.caller-number.result.number in
    let number = ap (λ (caller : Caller). caller.number) c.caller-number.ensures in
    let starts = c.start_in-start.ensures
    ∙ ap (λ (x : Call). said.start_in x c.answer.result.now) c.call.ensures.value
    ∙ ap (λ (a : Result Reply Refusal). said.start_in entry.call a) c.answer.ensures in
    let makes = c.making_mark-making.ensures
    ∙ ap (λ (o : Option Start). said.making_mark o c.call-2.result.now c.answer-2.result.now) c.claimed_by.ensures
    ∙ ap (λ (x : Call). said.making_mark before x c.answer-2.result.now) c.call-2.ensures.value
    ∙ ap (λ (a : Result Reply Refusal). said.making_mark before entry.call a) c.answer-2.ensures in
    let mark = c.newer.ensures ∙ ap (λ (o : Option Mark). said.newer o making) c.claim_mark.ensures in
    let tells = subst (λ o. Tells o was.marks told.marks) mark c.in_ok-tell.ensures.marks in
    on_ok_weaker _
    (λ claims. knows_more entry was told c.claim.new.self c.caller-number.result.number start making number starts makes
    tells c.in_ok-tell.ensures.claims claims c.claim.ensures.marks)
    c.claim.ensures.claims
