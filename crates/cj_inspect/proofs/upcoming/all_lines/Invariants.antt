-- all_lines: at each turn the text so far, with the lines of the files left, is that of all.
use Rattle.std.proofs.Common.{◌≡◌, ◌++◌, drop, string_bytes}
use Rattle.cj_inspect.specs.Upcoming.{all_lines}
use Rattle.cj_inspect.proofs.upcoming.all_lines.Given as goal

abbrev pub invariant-loop-file : goal.invariant-loop-file
invariant-loop-file l =
    string_bytes l.text ++ all_lines l.several (drop l.file-index l.files) ≡ all_lines l.several l.files
