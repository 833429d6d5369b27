-- push_characters: the text has grown by the characters passed, as they stand in double quotes.
use Rattle.std.proofs.Common.{◌≡◌, ◌++◌, flat_map, string_bytes}
use Rattle.cj_yaml.specs.Escapes.{coded_char}
use Rattle.cj_yaml.proofs.escape.push_characters.Given as goal

abbrev pub invariant-loop-character : goal.invariant-loop-character
invariant-loop-character l = string_bytes l.out ≡ string_bytes l.initial.out ++ flat_map coded_char l.yielded
