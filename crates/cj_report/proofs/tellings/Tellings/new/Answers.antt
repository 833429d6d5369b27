-- Tellings::new: its ensures, that it knows the history without an entry.
use Rattle.cj_report.proofs.OneWalk.{knows_nothing}
use Rattle.cj_report.proofs.tellings.Tellings.new.Goals as goal

pub returns : goal.returns
returns c = knows_nothing _ c.new.ensures.empty c.new-2.ensures
