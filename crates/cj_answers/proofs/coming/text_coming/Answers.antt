-- text_coming: its ensures where the text is read as a schedule and where it is refused.
use Rattle.std.proofs.Common.{[]}
use Rattle.cj_answers.proofs.Comes.{text_comes, text_fails}
use Rattle.cj_answers.proofs.coming.text_coming.Goals as goal

pub returns-in-Ok : goal.returns-in-Ok
returns-in-Ok c = text_comes c.args.text.now c.args.zone.now c.coming.result.now c.in-Ok.schedule c.in-Ok.ensures.only
    c.coming.ensures

pub returns-in-Err : goal.returns-in-Err
returns-in-Err c = text_fails c.args.text.now c.args.zone.now [] c.in-Err.field-0 c.in-Err.ensures.only
