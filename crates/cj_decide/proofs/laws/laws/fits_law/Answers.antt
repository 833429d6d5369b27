-- fits_law: its one clause, that every plan is what a history of syncs needs.
use Rattle.cj_decide.proofs.LawsLemmas.Fitting.{decided_fits}
use Rattle.cj_decide.proofs.laws.laws.fits_law.Goals as goal

pub returns : goal.returns
returns c = decided_fits
