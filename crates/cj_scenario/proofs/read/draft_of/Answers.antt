-- draft_of: its clause refused, by the first fault of the manifest.
use Rattle.cj_scenario.proofs.read.draft_of.Goals as goal

pub returns-in-Err-clause-refused : goal.returns-in-Err-clause-refused
returns-in-Err-clause-refused c = c.first_fault.ensures _ c.in-Err.ensures.refused
