-- all_dropped_words, its loop: text and the lines of the warnings left are those of all warnings.
use Rattle.std.proofs.Common.{◌≡◌, ◌++◌, drop, string_bytes}
use Rattle.cj_answers.specs.Advice.{dropped_words_all}
use Rattle.cj_answers.proofs.advice.all_dropped_words.Given as goal

abbrev pub invariant-loop-warning : goal.invariant-loop-warning
invariant-loop-warning l = string_bytes l.text ++ dropped_words_all (drop l.warning-index l.warnings)
    ≡ dropped_words_all l.warnings
