-- cronsim_fault_text: its ensures, where there is a sentence.
use Rattle.std.proofs.Common.{subst, ℕ, List}
use Rattle.cj_c.specs.answers.FaultText.{IsFaultTextAnswered}
use Rattle.cj_c.proofs.answers.fault_text.cronsim_fault_text.Goals as goal

pub returns-in-Some-fault_of : goal.returns-in-Some-fault_of
returns-in-Some-fault_of c =
    subst (λ (s : List ℕ). IsFaultTextAnswered s c.args.fault.now c.args.answer.now c.sentence.new.answer
    c.args.length.now c.sentence.new.length c.sentence.result) c.in-Some.ensures.some
    (c.sentence.ensures c.args.fault.now c.in-Some-fault_of.ensures.some)
