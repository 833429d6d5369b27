-- file_names_law: its one clause, from the lemma stay_below of FileNames.
use Rattle.cj_io.proofs.ZoneFilesLemmas.FileNames.{stay_below}
use Rattle.cj_io.proofs.zone_files.file_name.file_names_law.Goals as goal

pub returns : goal.returns
returns c = stay_below
