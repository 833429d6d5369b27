-- passed_lines: at each turn the text so far, with the lines of the files left, is that of all.
use Rattle.std.proofs.Common.{◌≡◌, ◌++◌, drop, string_bytes}
use Rattle.cj_inspect.specs.Upcoming.{passed_lines}
use Rattle.cj_inspect.proofs.upcoming.passed_lines.Given as goal

abbrev pub invariant-loop-file : goal.invariant-loop-file
invariant-loop-file l =
    string_bytes l.text ++ passed_lines l.several (drop l.file-index l.files) ≡ passed_lines l.several l.files
