-- print_warnings, its loop: text and the lines of the warnings left are those of all warnings.
use Rattle.std.proofs.Common.{◌≡◌, ◌++◌, drop, string_bytes}
use Rattle.cj_answers.specs.Lines.{warning_lines}
use Rattle.cj_answers.proofs.lines.print_warnings.Given as goal

abbrev pub invariant-loop-warning : goal.invariant-loop-warning
invariant-loop-warning l = string_bytes l.text ++ warning_lines (drop l.warning-index l.warnings)
    ≡ warning_lines l.warnings
