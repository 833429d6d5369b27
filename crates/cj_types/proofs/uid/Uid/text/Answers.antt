-- Uid::text: its clause ok, by what `{:012x}` writes.
use Rattle.std.proofs.Common.{◌≡◌, ◌∙◌, ◌<◌, ◌^◌, ap, arith, refl, ◌++◌}
use Rattle.std.specs.Prelude.{codes, Some}
use Rattle.std.specs.Fmt.{styled_digits_output}
use Rattle.cj_types.specs.Uids.{hex_digits}
use Rattle.cj_types.proofs.HexWrites.{twelve_digits, written}
use Rattle.cj_types.proofs.uid.Uid.text.Goals as goal

pub returns-clause-ok : goal.returns-clause-ok
returns-clause-ok c =
    let front = codes "00000000-0000-0000-0000-" in
    let n = c.get-count.result in
    let small : n < 16 ^ 12 = omega (arith, c.get-count.ensures.in_range) in
    let is : styled_digits_output c.in_radix.result c.laid_out.result ≡ Some (hex_digits 12 n) =
    rw (c.laid_out.ensures, c.in_radix.ensures, twelve_digits n small) refl in
    c.from_string.ensures ∙ written front (hex_digits 12 n) _ _ is c.in_ok-text.ensures.ok
    ∙ ap (λ k. front ++ hex_digits 12 k) c.get-count.ensures.value
