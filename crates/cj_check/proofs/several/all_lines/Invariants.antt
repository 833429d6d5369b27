-- all_lines, its loop: text and the lines of the files left are those of all files.
use Rattle.std.proofs.Common.{◌≡◌, ◌++◌, drop, string_bytes}
use Rattle.cj_check.specs.Several.{all_lines}
use Rattle.cj_check.proofs.several.all_lines.Given as goal

abbrev pub invariant-loop-file : goal.invariant-loop-file
invariant-loop-file l =
    string_bytes l.text ++ all_lines l.stream (drop l.file-index l.files) ≡ all_lines l.stream l.files
