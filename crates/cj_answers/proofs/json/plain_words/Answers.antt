-- plain_words: its clause, by the place and what is said of it as YAML.
use Rattle.std.proofs.Common.{subst, sym}
use Rattle.cj_answers.specs.Json.{IsYamlWords}
use Rattle.cj_answers.proofs.json.plain_words.Goals as goal

pub returns : goal.returns
returns c = record {
  line = c.in_ok-place.place.line;
  column = c.in_ok-place.place.column;
  more = c.as_str.result.now;
  is_more = subst (IsYamlWords c.args.bytes.now) (sym c.as_str.ensures.value) c.in_ok-more.ensures;
  are = c.in_ok-placed.ensures;
}
