-- every_time_law: its clauses from_then, let_always, held_back, since_creation, each, minutely and
-- ended; and the samples.
use Rattle.cj_history.proofs.ProgressLemmas.Synced.{every_time, lets_each, forbidden_holds_back}
use Rattle.cj_history.proofs.ProgressLemmas.Since.{every_time_since}
use Rattle.cj_history.proofs.ProgressLemmas.Near.{each_due, each_minute, each_ended}
use Rattle.cj_history.proofs.ProgressLemmas.EverySample.{sample, sample_times, sample_hour}
use Rattle.cj_history.proofs.ProgressLemmas.ForbidSample.{forbid_sample, tells_so}
use Rattle.cj_history.proofs.progress.laws.every_time_law.Goals as goal

pub returns-clause-from_then : goal.returns-clause-from_then
returns-clause-from_then c = every_time

pub returns-clause-let_always : goal.returns-clause-let_always
returns-clause-let_always c = lets_each

pub returns-clause-held_back : goal.returns-clause-held_back
returns-clause-held_back c = let a = forbid_sample in let b = tells_so in forbidden_holds_back

pub returns-clause-since_creation : goal.returns-clause-since_creation
returns-clause-since_creation c = let a = sample in let b = sample_times in let d = sample_hour in every_time_since

pub returns-clause-each : goal.returns-clause-each
returns-clause-each c = each_due

pub returns-clause-minutely : goal.returns-clause-minutely
returns-clause-minutely c = each_minute

pub returns-clause-ended : goal.returns-clause-ended
returns-clause-ended c = each_ended
