-- all_words: at each turn the text so far, with the words of the files left, is that of all.
use Rattle.std.proofs.Common.{◌≡◌, ◌++◌, drop, string_bytes}
use Rattle.cj_inspect.specs.Upcoming.{all_words}
use Rattle.cj_inspect.proofs.upcoming.all_words.Given as goal

abbrev pub invariant-loop-file : goal.invariant-loop-file
invariant-loop-file l =
    string_bytes l.text ++ all_words l.several (drop l.file-index l.files) ≡ all_words l.several l.files
