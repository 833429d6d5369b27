-- is_key: what stands behind a plain text that is printed.
use Rattle.std.proofs.Common.{true≢false, refl, sym, ap, ◌∙◌, ◌==◌}
use Rattle.cj_yaml.proofs.PlainEnds.{byte_behind, no_quote}
use Rattle.cj_yaml.proofs.block.Reader.is_key.Goals as goal

pub returns-then-is_quote : goal.returns-then-is_quote
returns-then-is_quote c =
    record {
      printed = λ t rest stands.
          absurd (true≢false (sym (sym c.is_quote.ensures ∙ c.if-is_quote.true)
          ∙ no_quote c.args.self.now.cursor.text.now c.args.self.now.cursor.at c.peek.result t rest stands
          c.peek.ensures));
    }

pub returns-else-is_quote : goal.returns-else-is_quote
returns-else-is_quote c =
    record {
      printed = λ t rest stands.
          ap (λ b. b == 58)
          (byte_behind c.args.self.now.cursor.text.now c.args.self.now.cursor.at c.plain_end-end.result c.byte.result t
          rest stands (c.plain_end-end.ensures.printed t rest refl stands) c.byte.ensures);
    }
