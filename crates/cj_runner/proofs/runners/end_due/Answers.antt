-- end_due: its clauses ok and back where nothing is due, and its clause none where something is.
use Rattle.std.proofs.Common.{List, ap, refl, sym, ◌∙◌}
use Rattle.cj_runner.specs.Dues.{due_ends}
use Rattle.cj_runner.specs.declared.running.Running.{Running}
use Rattle.cj_runner.proofs.Wholes.{each_not, none_back, none_due, none_ended}
use Rattle.cj_runner.proofs.runners.end_due.Goals as goal

pub returns-then-none_due-clause-ok : goal.returns-then-none_due-clause-ok
returns-then-none_due-clause-ok g c =
    none_ended c.args.now c.args.running.items c.args.passes.items c.new.result.items
    (ap (λ (rs : List Running). due_ends c.args.now rs) (sym c.as_slice.ensures.value)
    ∙ none_due c.args.now c.as_slice.result.now (c.if-none_due.ensures.0 refl)) c.new.ensures.items

pub returns-then-none_due-clause-back : goal.returns-then-none_due-clause-back
returns-then-none_due-clause-back g c = none_back c.args.now c.args.running.items c.args.passes.items

pub returns-in_default-clause-none : goal.returns-in_default-clause-none
returns-in_default-clause-none g c =
    λ none. c.if-none_due.ensures.1 (each_not c.args.now c.as_slice.result.now
    (ap (λ (rs : List Running). due_ends c.args.now rs) c.as_slice.ensures.value ∙ none))

pub returns-in-Some-clause-none : goal.returns-in-Some-clause-none
returns-in-Some-clause-none g c =
    λ none. c.if-none_due.ensures.1 (each_not c.args.now c.as_slice.result.now
    (ap (λ (rs : List Running). due_ends c.args.now rs) c.as_slice.ensures.value ∙ none))
