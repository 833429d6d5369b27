-- Tellings::tell: its clause reasons, where a set with the reasons is put in at the worker's key.
use Rattle.std.proofs.lemmas.Result.{on_ok_weaker}
use Rattle.cj_report.proofs.OneWalk.{tells_put}
use Rattle.cj_report.proofs.tellings.Tellings.tell.Goals as goal

pub returns-clause-reasons : goal.returns-clause-reasons
returns-clause-reasons c =
    on_ok_weaker _
    (tells_put _ _ _ c.in-Some.key.now c.in_ok-key.key _ _ _ c.in-Some.ensures.value c.in_ok-key.ensures.ok
    c.told.ensures c.with-told.ensures)
    c.insert.ensures.ok
