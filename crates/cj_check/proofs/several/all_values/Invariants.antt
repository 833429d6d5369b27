-- all_values, its loop: text and the values of the files left are those of all files.
use Rattle.std.proofs.Common.{◌≡◌, ◌++◌, drop, string_bytes}
use Rattle.cj_check.specs.Several.{all_values}
use Rattle.cj_check.proofs.several.all_values.Given as goal

abbrev pub invariant-loop-file : goal.invariant-loop-file
invariant-loop-file l = string_bytes l.text ++ all_values (drop l.file-index l.files) ≡ all_values l.files
