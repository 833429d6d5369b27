-- uid_laws: its one clause, that no two uids have the same text.
use Rattle.cj_types.proofs.UidTexts.{uids_apart}
use Rattle.cj_types.proofs.laws.uid_laws.Goals as goal

pub returns : goal.returns
returns c = uids_apart
