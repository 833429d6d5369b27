-- gone_lines: at each turn the text so far, with the lines of the names left, is that of all.
use Rattle.std.proofs.Common.{◌≡◌, ◌++◌, drop, string_bytes}
use Rattle.cj_why.specs.reviews.Words.{gone_lines}
use Rattle.cj_why.proofs.reviews.words.gone_lines.Given as goal

abbrev pub invariant-loop-name : goal.invariant-loop-name
invariant-loop-name l =
    string_bytes l.text ++ gone_lines (drop l.name-index l.names) ≡ gone_lines l.names
