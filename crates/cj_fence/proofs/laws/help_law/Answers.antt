-- help_law: its ensures, that nothing claimed is lost, that an undisturbed sync starts it, and that it isn't
-- stuck; and samples of what disturbs.
use Rattle.cj_fence.proofs.laws.help_law.Goals as goal
use Rattle.cj_fence.proofs.FenceLemmas.Lost.{nothing_lost}
use Rattle.cj_fence.proofs.FenceLemmas.Help.{help}
use Rattle.cj_fence.proofs.FenceLemmas.Ends.{never_stuck}
use Rattle.cj_fence.proofs.FenceLemmas.Spared.{running_stays}
use Rattle.cj_fence.proofs.FenceLemmas.Samples.{not_by_reading, not_by_another, by_deletion}

pub returns-clause-lost : goal.returns-clause-lost
returns-clause-lost c = nothing_lost

pub returns-clause-help : goal.returns-clause-help
returns-clause-help c =
    let s0 = not_by_reading in
    let s1 = not_by_another in
    let s2 = by_deletion in
    help

pub returns-clause-goes_on : goal.returns-clause-goes_on
returns-clause-goes_on c = never_stuck

pub returns-clause-running : goal.returns-clause-running
returns-clause-running c = running_stays
