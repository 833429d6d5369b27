-- Failures::put: its clause ok, that the count is inserted at the key.
use Rattle.std.proofs.Common.{◌≡◌, false, ap, subst, ◌∙◌}
use Rattle.std.specs.FinMap as map
use Rattle.std.specs.Result.{is_err}
use Rattle.cj_table.proofs.Rows.{inserted_at}
use Rattle.cj_queue.specs.Times.{SetsTime}
use Rattle.cj_queue.specs.Parts.{Counts}
use Rattle.cj_queue.proofs.TimesLemmas.{ok_of}
use Rattle.cj_queue.proofs.failures.Failures.put.Goals as goal

pub returns-clause-ok : goal.returns-clause-ok
returns-clause-ok c =
    let h : is_err c.insert.result ≡ false = cc (c.is_err.ensures.value, c.if-is_err.false) in
    let sets = subst (λ k. SetsTime c.self.inside.counts.entries c.insert.new.self.entries k c.args.count)
    c.in_ok-copy.ensures.ok
    (ok_of c.insert.result _ h c.insert.ensures.updates).0 in
    inserted_at c.self.inside.counts.entries c.insert.new.self.entries c.args.key.now c.args.count sets
    ∙ ap (λ (m : Counts). map.insert m c.args.key.now c.args.count) c.self.view_is
