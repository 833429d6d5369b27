-- mirror_law: its clause MirrorLaw, that the listing has the Jobs that the first writes left.
use Rattle.cj_history.proofs.StoreLemmas.Followed.{mirror_agrees}
use Rattle.cj_history.proofs.store.laws.mirror_law.Goals as goal

pub returns : goal.returns
returns c = mirror_agrees
