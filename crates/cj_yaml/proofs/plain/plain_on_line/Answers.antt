-- plain_on_line: a plain text that is printed, and its end.
use Rattle.std.proofs.Common.{◌∙◌}
use Rattle.cj_yaml.proofs.PlainEnds.{end_shown}
use Rattle.cj_yaml.proofs.plain.plain_on_line.Goals as goal

pub returns : goal.returns
returns c =
    record {
      printed = λ t rest flat stands.
          let ends = c.plain_end-end.ensures.printed t rest flat stands in
          let shown = end_shown c.args.text.now c.args.at c.plain_end-end.result t rest stands ends in
          (c.part.ensures.whole t rest stands.there (c.trimmed-shown.ensures.none shown.0 shown.1 ∙ ends), ends);
    }
