-- sources_told: what refused_file requires of the file that ends the reading.
use Rattle.cj_inspect.proofs.FilesLemmas.{stopped}
use Rattle.cj_inspect.proofs.upcoming.sources_told.Goals as goal

pub refused_file-requires : goal.refused_file-requires
refused_file-requires c = stopped _ _ _ _ c.in-Err.ensures.refused
