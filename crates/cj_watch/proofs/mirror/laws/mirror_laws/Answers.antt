-- mirror_laws: its clause MirrorsFollow, that a mirror has the Jobs that as many writes left.
use Rattle.cj_watch.proofs.MirrorLemmas.Following.{mirrors_follow}
use Rattle.cj_watch.proofs.mirror.laws.mirror_laws.Goals as goal

pub returns : goal.returns
returns c = mirrors_follow
