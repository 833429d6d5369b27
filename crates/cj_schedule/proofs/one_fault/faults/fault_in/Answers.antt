-- fault_in: its clauses found and only, from fault_laws and from what parse answers.
use Rattle.std.proofs.Common.{◌≡◌, ℕ, List, Option, Some, None, Result, Ok, Err, IfOk, IfSome, sym, ap, ◌∙◌}
use Rattle.std.specs.Result.{result_err}
use Rattle.cj_base.specs.declared.schedule_fault.ScheduleFault.{ScheduleFault}
use Rattle.cj_schedule.specs.Grammar.{IsSchedule}
use Rattle.cj_schedule.specs.Matches.{Sets}
use Rattle.cj_schedule.specs.Reading.{fault_of}
use Rattle.cj_schedule.specs.one_fault.OneFault.{IsFaultOf, NoTwoFaults, FaultyIsNoSchedule, ToldIsFault}
use Rattle.cj_schedule.proofs.one_fault.faults.fault_in.Goals as goal

-- For the clause found: what is told of a text as its fault is one that it has.
found_by : (text : List ℕ) (o : Option ScheduleFault) → ToldIsFault → o ≡ fault_of text
    → IfSome o (λ fault. IsFaultOf text fault)
found_by text None told e = tt
found_by text (Some fault) told e = told text fault (sym e)

-- For the clause only: a text that has a fault is refused with that one.
only_by : (text : List ℕ) (r : Result Sets ScheduleFault) → NoTwoFaults → FaultyIsNoSchedule → ToldIsFault
    → IfOk r (λ s. IsSchedule text s) → result_err r ≡ fault_of text
    → (fault : ScheduleFault) → IsFaultOf text fault → result_err r ≡ Some fault
only_by text (Ok s) one faulty told found e fault h = absurd (faulty text fault h s found)
only_by text (Err other) one faulty told found e fault h = ap Some (one text other fault (told text other (sym e)) h)

pub returns-clause-found : goal.returns-clause-found
returns-clause-found c =
    found_by c.args.text.now c.err.result c.fault_laws.ensures.told (c.err.ensures.value ∙ c.parse.ensures.exact)

pub returns-clause-only : goal.returns-clause-only
returns-clause-only c =
    let only = only_by c.args.text.now c.parse.result c.fault_laws.ensures.one c.fault_laws.ensures.faulty
    c.fault_laws.ensures.told c.parse.ensures.found c.parse.ensures.exact in
    λ fault h. c.err.ensures.value ∙ only fault h
