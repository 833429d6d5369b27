-- char_len: its one clause, that it counts the characters of the text.
use Rattle.std.proofs.Common.{rules}
use Rattle.std.proofs.lemmas.Str.{chars_from_encodes}
use Rattle.cj_types.proofs.name_rules.char_len.Goals as goal

pub returns : goal.returns
returns c = search (rules, chars_from_encodes)
