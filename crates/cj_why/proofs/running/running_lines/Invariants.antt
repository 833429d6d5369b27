-- running_lines: at each turn the text so far, with the lines of the Jobs left, is that of all.
use Rattle.std.proofs.Common.{◌≡◌, ◌++◌, drop, string_bytes}
use Rattle.cj_why.specs.Running.{running_lines}
use Rattle.cj_why.proofs.running.running_lines.Given as goal

abbrev pub invariant-loop-job : goal.invariant-loop-job
invariant-loop-job l =
    string_bytes l.text ++ running_lines (drop l.job-index l.running) ≡ running_lines l.running
