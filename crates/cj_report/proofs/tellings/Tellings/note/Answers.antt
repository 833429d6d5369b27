-- Tellings::note: its clause ok, as the reasons were told before the key is taken.
use Rattle.std.proofs.Common.{ap, ◌∙◌}
use Rattle.std.proofs.lemmas.Result.{on_ok_weaker}
use Rattle.cj_calls.specs.declared.caller.Caller.{Caller}
use Rattle.cj_report.specs.Reasons as said
use Rattle.cj_report.proofs.OneWalk.{knows_more}
use Rattle.cj_report.proofs.tellings.Tellings.note.Goals as goal

pub returns-clause-ok : goal.returns-clause-ok
returns-clause-ok c =
    let number = ap (λ (caller : Caller). caller.number) c.caller-number.ensures in
    let key = c.answered_key.ensures ∙ ap said.answered_key c.answer.ensures in
    on_ok_weaker _
    (λ takes. knows_more c.args.entry.now c.args.self.now c.tell.new.self c.take.new.self _ _ _ number
    c.reasons_told.ensures key
    c.in_ok-tell.ensures.reasons c.in_ok-tell.ensures.keys takes c.take.ensures.reasons)
    c.take.ensures.keys
