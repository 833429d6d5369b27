-- list_reviewed: its ensures, for the lines of those that are unknown in the list.
use Rattle.std.proofs.Common.{◌⊎◌, ◌∙◌, subst, ℕ, List}
use Rattle.std.specs.Prelude.{IfOk}
use Rattle.cj_zone.specs.Table.{zones_of}
use Rattle.cj_answers.specs.Outcome.{outcome_of}
use Rattle.cj_inspect.specs.Why.{PrintsKnown, RefusesCron}
use Rattle.cj_inspect.proofs.why.list_reviewed.Goals as goal

pub returns : goal.returns
returns c =
    let r = c.args.why.now in
    subst (λ (w : List ℕ). IfOk c.known_reviewed.result (λ a. RefusesCron r w (outcome_of a)
    ⊎ PrintsKnown r (zones_of c.args.zones.now) c.args.now c.args.list.now w (outcome_of a)))
    (c.as_str.ensures.value ∙ c.in_ok-unknown.ensures) c.known_reviewed.ensures
