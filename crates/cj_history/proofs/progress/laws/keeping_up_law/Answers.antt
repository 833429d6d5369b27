-- keeping_up_law: its clauses keep_up, each, allowed and ended; and who deletes a CronJob.
use Rattle.cj_history.proofs.ProgressLemmas.Apart.{syncs_keep_up}
use Rattle.cj_history.proofs.ProgressLemmas.Gone.{deletes_it}
use Rattle.cj_history.proofs.ProgressLemmas.InTime.{each_in_time, each_allowed, each_ended_in_time}
use Rattle.cj_history.proofs.progress.laws.keeping_up_law.Goals as goal

pub returns-clause-keep_up : goal.returns-clause-keep_up
returns-clause-keep_up c = let a = deletes_it in syncs_keep_up

pub returns-clause-each : goal.returns-clause-each
returns-clause-each c = each_in_time

pub returns-clause-allowed : goal.returns-clause-allowed
returns-clause-allowed c = each_allowed

pub returns-clause-ended : goal.returns-clause-ended
returns-clause-ended c = each_ended_in_time
