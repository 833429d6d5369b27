-- Jobs::new: that there is no Job, and the type's invariant where all is empty.
use Rattle.cj_table.proofs.JobsLemmas.Kept.{index_empty, jobs_empty}
use Rattle.cj_table.proofs.jobs.jobs.Jobs.new.Goals as goal

pub invariant_of-result : goal.invariant_of-result
invariant_of-result c = index_empty _ _ _ c.new-2.ensures c.new.ensures c.new-3.ensures

pub returns : goal.returns
returns c = jobs_empty c.new-2.result c.new.result c.new-2.ensures
