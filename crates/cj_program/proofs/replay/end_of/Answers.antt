-- end_of: its clause well, where no step found the history full.
use Rattle.std.proofs.Common.{refl}
use Rattle.cj_io.proofs.Written.{appends_none}
use Rattle.cj_program.proofs.replay.end_of.Goals as goal

pub returns-else-is_full-clause-well : goal.returns-else-is_full-clause-well
returns-else-is_full-clause-well g c = λ lt. (refl, c.if-is_full.false, appends_none _)
