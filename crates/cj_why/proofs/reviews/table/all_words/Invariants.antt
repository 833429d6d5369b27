-- all_words: at each turn the text so far, with the words of the rows left, is that of all.
use Rattle.std.proofs.Common.{◌≡◌, ◌++◌, drop, string_bytes}
use Rattle.cj_why.specs.reviews.Table.{all_words}
use Rattle.cj_why.proofs.reviews.table.all_words.Given as goal

abbrev pub invariant-loop-row : goal.invariant-loop-row
invariant-loop-row l = string_bytes l.text ++ all_words (drop l.row-index l.rows) ≡ all_words l.rows
