-- audit: its clause ok, since what is noted in an empty set is what is wrong in the cluster.
use Rattle.std.proofs.Common.{sym, subst}
use Rattle.std.proofs.lemmas.Result.{IfOk-weaker}
use Rattle.cj_zone.specs.Table.{zones_of}
use Rattle.cj_audit.specs.Findings.{IsAudit}
use Rattle.cj_audit.proofs.Audited.{audited}
use Rattle.cj_audit.proofs.whole.audit.Goals as goal

pub returns-clause-ok : goal.returns-clause-ok
returns-clause-ok c =
    let zones = zones_of c.args.zones.now in
    let content = c.args.cluster.now in
    let refused = c.args.refused.now in
    let whole : IsAudit zones content refused c.note_stuck.new.notes.keys = audited zones content refused
    c.new-notes.result
    c.note_crons.new.notes c.note_strays.new.notes c.note_stuck.new.notes c.new-notes.ensures.empty
    c.in_ok-note_crons.ensures.ok c.in_ok-note_strays.ensures.ok c.in_ok-note_stuck.ensures.ok
    c.of_set.ensures.ordered in
    IfOk-weaker c.of_set.result _ _ (λ f e. subst (λ xs. IsAudit zones content refused xs) (sym e) whole)
    c.of_set.ensures.ok
