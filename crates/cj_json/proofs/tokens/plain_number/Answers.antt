-- plain_number: the number is printed as this text, which is so the number's.
use Rattle.std.proofs.Common.{◌≡◌, ◌∙◌, ◌<◌, ◌^◌, decimal, sym, ap, arith}
use Rattle.std.proofs.lemmas.Slice.Eq.{bytes_eq-Decides}
use Rattle.serde_json.specs.Read.{number_of}
use Rattle.serde_json.proofs.Numbers.{number_of-decimal}
use Rattle.cj_json.proofs.tokens.plain_number.Goals as goal

pub returns-then-eq : goal.returns-then-eq
returns-then-eq c =
    let n = c.in_ok-number.number in
    let shown : c.format.result.now ≡ decimal n = c.format.ensures.text in
    let same : c.format.result.now ≡ c.args.text.now =
    (bytes_eq-Decides c.format.result.now c.args.text.now).0 (sym c.eq.ensures ∙ c.if-eq.true) in
    let bound : n < 2 ^ 64 = grind arith in
    ap number_of (sym same ∙ shown) ∙ number_of-decimal n bound
