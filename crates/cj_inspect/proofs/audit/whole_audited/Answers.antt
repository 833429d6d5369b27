-- whole_audited: its ensures, for the lines of those that are unknown in the list.
use Rattle.std.proofs.Common.{◌⊎◌, ◌∙◌, subst, ℕ, List}
use Rattle.std.specs.Prelude.{IfOk}
use Rattle.cj_zone.specs.Table.{zones_of}
use Rattle.cj_answers.specs.Outcome.{outcome_of}
use Rattle.cj_inspect.specs.Audit.{AuditsKnown, RefusesAuditCron}
use Rattle.cj_inspect.proofs.audit.whole_audited.Goals as goal

pub returns : goal.returns
returns c =
    let r = c.args.audit.now in
    subst (λ (w : List ℕ). IfOk c.known_audited.result (λ a. RefusesAuditCron r w (outcome_of a)
    ⊎ AuditsKnown r (zones_of c.args.zones.now) c.args.since c.args.now c.args.whole w (outcome_of a)))
    (c.as_str.ensures.value ∙ c.in_ok-unknown.ensures) c.known_audited.ensures
