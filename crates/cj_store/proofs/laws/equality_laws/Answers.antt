-- equality_laws: its clauses cron_specs, job_specs and owners, that the three tests are equality.
use Rattle.cj_store.proofs.Codes.{same_is_equal}
use Rattle.cj_store.proofs.laws.equality_laws.Goals as goal

pub returns-clause-cron_specs : goal.returns-clause-cron_specs
returns-clause-cron_specs c = same_is_equal _

pub returns-clause-job_specs : goal.returns-clause-job_specs
returns-clause-job_specs c = same_is_equal _

pub returns-clause-owners : goal.returns-clause-owners
returns-clause-owners c = same_is_equal _
