-- send: a request more of a sync, or the sync is given up.
use Rattle.cj_control.specs.declared.deed.Deed.TheVariants.{Sends}
use Rattle.cj_control.proofs.KeptLemmas.{kept_or_up}
use Rattle.cj_control.proofs.ledger.Ledger.send.Goals as goal

pub invariant_of-self : goal.invariant_of-self
invariant_of-self c =
    kept_or_up c.self.inside.book c.send.new.self c.self.invariant
    (λ id. Sends c.args.number id c.args.parts c.args.call c.args.request) c.args.number c.send.result
    c.send.ensures.ok c.send.ensures.err
