-- whole: a time without its fraction.
use Rattle.std.proofs.Common.{◌≡◌, subst}
use Rattle.std.specs.Prelude.{List, ℕ, IfOk, string_bytes}
use Rattle.cj_control.proofs.NameLemmas.{whole_none, whole_some}
use Rattle.cj_control.proofs.line.whole.Goals as goal

pub returns-in-Some : goal.returns-in-Some
returns-in-Some c =
    subst (λ (w : List ℕ). IfOk c.format.result (λ s. string_bytes s ≡ w))
    (whole_some c.args.text.now c.in-Some.head c.in-Some.field-0-1 c.in-Some.ensures.cases) c.format.ensures.ok

pub returns-in-None : goal.returns-in-None
returns-in-None c =
    subst (λ (w : List ℕ). IfOk c.from_str.result (λ s. string_bytes s ≡ w))
    (whole_none c.args.text.now c.in-None.ensures.cases) c.from_str.ensures.ok
