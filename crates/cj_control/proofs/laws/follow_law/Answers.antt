-- follow_law: its ensures.
use Rattle.cj_control.proofs.laws.follow_law.Goals as goal
use Rattle.cj_control.proofs.AloneLemmas.{all_follow}

pub returns : goal.returns
returns c = all_follow
