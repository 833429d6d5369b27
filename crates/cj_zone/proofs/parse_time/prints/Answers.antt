-- prints: its one clause, from the lemma printed_is of TextLemmas.
use Rattle.std.proofs.Common.{◌∙◌, sym}
use Rattle.std.specs.Cmp.Lexicographic.{bytes_decides}
use Rattle.cj_zone.proofs.TextLemmas.{printed_is}
use Rattle.cj_zone.proofs.parse_time.prints.Goals as goal

pub returns : goal.returns
returns c =
    let text = c.as_str.ensures.value ∙ printed_is c.new.result c.timestamp.result c.args.at _ c.new.ensures
    c.timestamp.ensures c.timestamp_text-printed.ensures in
    let same = bytes_decides c.as_str.result.now c.args.text.now in
    (λ is. sym (same.0 (sym c.eq.ensures ∙ is)) ∙ text, λ e. c.eq.ensures ∙ same.1 (text ∙ sym e))
