-- ask: its clause adds, where the call was entered with a reply and where with a refusal.
use Rattle.std.proofs.Common.{◌∙◌, sym}
use Rattle.cj_hub.proofs.Runs.{adds-one, accepted, not_accepted}
use Rattle.cj_hub.proofs.asking.ask.Goals as goal

pub returns-then-is_ok-clause-adds : goal.returns-then-is_ok-clause-adds
returns-then-is_ok-clause-adds g c =
    let said = c.in-Ok.ensures.ok in
    adds-one _ _ _ _ _ c.in-Ok.receipt c.in-Ok.ensures.told said.caller said.kept
    (accepted c.args.call c.in-Ok.receipt c.answer.result.now c.answer.ensures
    (sym c.is_ok.ensures.value ∙ c.if-is_ok.true) said.call_given c.in-Ok.ensures.row)

pub returns-else-is_ok-clause-adds : goal.returns-else-is_ok-clause-adds
returns-else-is_ok-clause-adds g c =
    let said = c.in-Ok.ensures.ok in
    adds-one _ _ _ _ _ c.in-Ok.receipt c.in-Ok.ensures.told said.caller said.kept
    (not_accepted c.args.call c.in-Ok.receipt c.answer.result.now c.answer.ensures
    (sym c.is_ok.ensures.value ∙ c.if-is_ok.false) said.call_given c.in-Ok.ensures.row)
