-- manual_lines: at each turn the text so far, with the lines of the Jobs left, is that of all.
use Rattle.std.proofs.Common.{◌≡◌, ◌++◌, drop, string_bytes}
use Rattle.cj_audit.specs.Manual.{manual_lines}
use Rattle.cj_audit.proofs.manual.manual_lines.Given as goal

abbrev pub invariant-loop-job : goal.invariant-loop-job
invariant-loop-job l =
    string_bytes l.text ++ manual_lines l.cluster.times (drop l.job-index l.jobs)
    ≡ manual_lines l.cluster.times l.jobs
