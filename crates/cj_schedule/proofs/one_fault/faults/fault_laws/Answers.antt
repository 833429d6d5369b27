-- fault_laws: its clauses one, faulty and told, by the lemmas that Told has for them.
use Rattle.cj_schedule.proofs.OneFaultLemmas.Told.{no_two_faults, faulty_is_no_schedule, told_is_fault}
use Rattle.cj_schedule.proofs.one_fault.faults.fault_laws.Goals as goal

pub returns-clause-one : goal.returns-clause-one
returns-clause-one c = no_two_faults

pub returns-clause-faulty : goal.returns-clause-faulty
returns-clause-faulty c = faulty_is_no_schedule

pub returns-clause-told : goal.returns-clause-told
returns-clause-told c = told_is_fault
