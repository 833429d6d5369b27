-- Line::add: its clause ok, by whether the key is in front.
use Rattle.std.proofs.Common.{◌≡◌, false, sym, ap, ◌∙◌}
use Rattle.std.specs.Result.{is_err}
use Rattle.cj_queue.specs.Parts.{line_of, with_last}
use Rattle.cj_queue.proofs.Stacks.{in_front, behind_front, ok_keys}
use Rattle.cj_queue.proofs.line.Line.add.Goals as goal

pub returns-then-has-clause-ok : goal.returns-then-has-clause-ok
returns-then-has-clause-ok c =
    ap (λ v. v.keys) (sym c.self.view_is)
    ∙ in_front c.self.inside.front.keys c.self.inside.back.keys c.args.key (sym c.has.ensures ∙ c.if-has.true)
    ∙ ap (λ v. with_last v.keys c.args.key) c.self.view_is

pub returns-clause-ok : goal.returns-clause-ok
returns-clause-ok c =
    let front = c.self.inside.front.keys in
    let back = c.self.inside.back.keys in
    let ok : is_err c.insert.result ≡ false = cc (c.is_err.ensures.value, c.if-is_err.false) in
    let put : c.insert.new.self.keys ≡ with_last back c.args.key = ok_keys c.insert.result _ ok c.insert.ensures.keys in
    ap (line_of front) put
    ∙ behind_front front back c.args.key (sym c.has.ensures ∙ c.if-has.false)
    ∙ ap (λ v. with_last v.keys c.args.key) c.self.view_is
