-- lines_of, its loop: text and the lines of the times left are those of all times.
use Rattle.std.proofs.Common.{◌≡◌, ◌++◌, drop, string_bytes}
use Rattle.cj_answers.specs.PreviousText.{lines_of}
use Rattle.cj_answers.proofs.previous_times.lines_of.Given as goal

abbrev pub invariant-loop-time : goal.invariant-loop-time
invariant-loop-time l = string_bytes l.text ++ lines_of (drop l.time-index l.times) ≡ lines_of l.times
