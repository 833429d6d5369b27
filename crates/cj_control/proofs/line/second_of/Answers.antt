-- second_of: the second of the text without its fraction.
use Rattle.std.proofs.Common.{◌≡◌, List, ℕ, subst, rules}
use Rattle.cj_control.specs.Lines.{IsSecond, whole}
use Rattle.cj_control.proofs.line.second_of.Goals as goal

pub returns : goal.returns
returns c =
    let is : c.as_str.result.now ≡ whole c.args.text.now = search rules in
    subst (λ (w : List ℕ). IsSecond w c.second.result) is c.second.ensures
