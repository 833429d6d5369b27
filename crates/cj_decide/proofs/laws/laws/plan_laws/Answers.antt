-- plan_laws: its eight clauses, one_plan to names_at_end, each by the lemma of that name.
use Rattle.cj_decide.proofs.LawsLemmas.One.{one_plan}
use Rattle.cj_decide.proofs.LawsLemmas.Claims.{claims_latest, claims_in_time, no_claim}
use Rattle.cj_decide.proofs.LawsLemmas.Orders.{oldest_first, all_running}
use Rattle.cj_decide.proofs.LawsLemmas.Ends.{cleans_finished, names_at_end}
use Rattle.cj_decide.proofs.laws.laws.plan_laws.Goals as goal

pub returns-clause-one_plan : goal.returns-clause-one_plan
returns-clause-one_plan c = one_plan

pub returns-clause-claims_latest : goal.returns-clause-claims_latest
returns-clause-claims_latest c = claims_latest

pub returns-clause-claims_in_time : goal.returns-clause-claims_in_time
returns-clause-claims_in_time c = claims_in_time

pub returns-clause-no_claim : goal.returns-clause-no_claim
returns-clause-no_claim c = no_claim

pub returns-clause-oldest_first : goal.returns-clause-oldest_first
returns-clause-oldest_first c = oldest_first

pub returns-clause-all_running : goal.returns-clause-all_running
returns-clause-all_running c = all_running

pub returns-clause-cleans_finished : goal.returns-clause-cleans_finished
returns-clause-cleans_finished c = cleans_finished

pub returns-clause-names_at_end : goal.returns-clause-names_at_end
returns-clause-names_at_end c = names_at_end
