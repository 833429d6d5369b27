-- Families::note: its clause ok, as the tally of its kind is put in.
use Rattle.std.proofs.Common.{◌∙◌, ap, Option, subst}
use Rattle.std.proofs.lemmas.Result.{on_ok_weaker}
use Rattle.cj_program.specs.declared.remarks.families.Kind.{Kind}
use Rattle.cj_program.specs.declared.remarks.families.Tally.{Tally}
use Rattle.cj_program.specs.remarks.Families.{Stands, tally_at, tally_with}
use Rattle.cj_program.proofs.Counted.{counted_more}
use Rattle.cj_program.proofs.remarks.families.Families.note.Goals as goal

pub returns-clause-ok : goal.returns-clause-ok
returns-clause-ok c =
    let gap = c.args.gap.now in
    let was = c.args.self.now in
    let kind = c.kind_of-kind.ensures in
    let tally = c.tally_with-tally.ensures ∙ ap (λ (o : Option Tally). tally_with o gap.time) c.tally.ensures
    ∙ ap (λ (k : Kind). tally_with (tally_at was k) gap.time) kind in
    on_ok_weaker _
    (λ put. counted_more was c.put.new.self gap c.tally_with-tally.result tally
    (subst (λ (k : Kind). Stands k c.tally_with-tally.result was c.put.new.self) kind put))
    c.put.ensures.ok
