-- Field::same: its ensures, from the == of fields.
use Rattle.std.proofs.Common.{rules, ◌≡◌, MatchBool, Bool, true, false, refl, sym, ◌∙◌}
use denote.Enum.Bare.{same_true, same_false}
use Rattle.cj_base.specs.contracts.field.Field.{the_type}
use Rattle.cj_base.proofs.same.FieldSame.same.Goals as goal

-- What follows from a true answer and what follows from a false one match the answer.
by_answer : (b : Bool) (P Q : Type 0) → (b ≡ true → P) → (b ≡ false → Q) → MatchBool b P Q
by_answer true P Q p q = p refl
by_answer false P Q p q = q refl

pub returns : goal.returns
returns c = by_answer c.eq.result _ _
    (λ h. same_true the_type (search rules) _ _ (sym c.eq.ensures ∙ h))
    (λ h. same_false the_type c.args.self.now c.args.other.now (sym c.eq.ensures ∙ h))
