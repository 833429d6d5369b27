-- clock: the second that a text says.
use Rattle.std.proofs.Common.{◌≡◌, Option, Some, List, ℕ, subst, rules}
use Rattle.std.specs.Prelude.{IfOk}
use Rattle.serde_json.specs.Find.{as_str}
use Rattle.serde_json.specs.View.{view}
use Rattle.cj_control.specs.Lines.{IsClockAt}
use Rattle.cj_control.proofs.line.clock.Goals as goal

pub returns-in-Some : goal.returns-in-Some
returns-in-Some c =
    let is : Some c.in-Some.text.now ≡ as_str (view c.args.now.now) = search rules in
    subst (λ (x : Option (List ℕ)). IfOk c.second_of.result (IsClockAt x)) is c.second_of.ensures
