-- answer_laws: its clauses crons and jobs, of what accepted calls on CronJobs and on Jobs answer.
use Rattle.cj_store.proofs.StoreLawsLemmas.Answered.{cron_answers, job_answers}
use Rattle.cj_store.proofs.store_laws.answers.answer_laws.Goals as goal

pub returns-clause-crons : goal.returns-clause-crons
returns-clause-crons c = cron_answers

pub returns-clause-jobs : goal.returns-clause-jobs
returns-clause-jobs c = job_answers
