-- no_garbage_law: its ensures, that garbage is never started and that an undisturbed sync removes it.
use Rattle.cj_fence.proofs.laws.no_garbage_law.Goals as goal
use Rattle.cj_fence.proofs.FenceLemmas.Garbage.{never, cleared}

pub returns-clause-never : goal.returns-clause-never
returns-clause-never c = never

pub returns-clause-cleared : goal.returns-clause-cleared
returns-clause-cleared c = cleared
