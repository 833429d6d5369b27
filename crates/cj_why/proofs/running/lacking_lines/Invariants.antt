-- lacking_lines: at each turn the text so far, with the lines of the names left, is that of all.
use Rattle.std.proofs.Common.{◌≡◌, ◌++◌, drop, string_bytes}
use Rattle.cj_why.specs.Running.{lacking_lines}
use Rattle.cj_why.proofs.running.lacking_lines.Given as goal

abbrev pub invariant-loop-name : goal.invariant-loop-name
invariant-loop-name l =
    string_bytes l.text ++ lacking_lines (drop l.name-index l.lacking) ≡ lacking_lines l.lacking
