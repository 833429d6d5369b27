-- has_text: its one clause, where the text begins as a uid's does.
use Rattle.std.proofs.Common.{◌≡◌, ◌∙◌, ap, ap₂, sym, ℕ, true, List, ◌++◌, take, drop, length}
use Rattle.std.specs.Prelude.{codes}
use Rattle.std.specs.Str.{bytes_eq}
use Rattle.cj_types.specs.Uids.{hex_digits}
use Rattle.cj_types.proofs.UidDigits.{with_front}
use Rattle.cj_types.proofs.uid.Uid.has_text.Goals as goal

-- The text's bytes without the front's are compared just as the text is with the front and the rest.
behind : (front text bytes given digits rest : List ℕ) → bytes ≡ text → given ≡ front
    → bytes_eq (take (length given) bytes) given ≡ true → digits ≡ drop (length given) bytes
    → bytes_eq digits rest ≡ bytes_eq text (front ++ rest)
behind front text bytes given digits rest b g s d =
    with_front front text digits rest (sym (ap₂ (λ x y. bytes_eq (take (length y) x) y) b g) ∙ s)
    (d ∙ ap₂ (λ x y. drop (length y) x) b g)

pub returns-in-Some : goal.returns-in-Some
returns-in-Some c =
    c.are_digits.ensures ∙ ap (λ n. bytes_eq c.in-Some.digits.now (hex_digits 12 n)) c.get.ensures.value
    ∙ behind (codes "00000000-0000-0000-0000-") c.args.text.now c.as_bytes.result.now c.as_bytes-2.result.now
    c.in-Some.digits.now (hex_digits 12 c.args.self) c.as_bytes.ensures.value c.as_bytes-2.ensures.value
    c.in-Some.ensures.cases.0 c.in-Some.ensures.cases.1
