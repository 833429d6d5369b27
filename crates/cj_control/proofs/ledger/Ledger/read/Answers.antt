-- read: a request more of no sync.
use Rattle.cj_control.specs.declared.deed.Deed.TheVariants.{Reads}
use Rattle.cj_control.proofs.KeptLemmas.{kept_or_same}
use Rattle.cj_control.proofs.ledger.Ledger.read.Goals as goal

pub invariant_of-self : goal.invariant_of-self
invariant_of-self c =
    kept_or_same c.self.inside.book c.read.new.self c.self.invariant (λ id. Reads id c.args.request)
    c.read.result c.read.ensures.ok c.read.ensures.err
