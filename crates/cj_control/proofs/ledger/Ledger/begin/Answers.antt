-- begin: a sync more that began.
use Rattle.cj_control.specs.declared.deed.Deed.TheVariants.{Begins}
use Rattle.cj_control.proofs.KeptLemmas.{kept_or_same}
use Rattle.cj_control.proofs.ledger.Ledger.begin.Goals as goal

pub invariant_of-self : goal.invariant_of-self
invariant_of-self c =
    kept_or_same c.self.inside.book c.begin.new.self c.self.invariant (λ y. Begins y c.args.name) c.begin.result
    c.begin.ensures.ok c.begin.ensures.err
