-- count_of, its loop: count, at most file-index, is how many of the files so far fared so.
use Rattle.std.proofs.Common.{◌≡◌, ◌≤◌, take}
use Rattle.std.specs.List.{count_by}
use Rattle.cj_check.specs.Several.{has_state}
use Rattle.cj_check.proofs.several.count_of.Given as goal

abbrev pub invariant-loop-file : goal.invariant-loop-file
invariant-loop-file l = (l.count ≡ count_by (has_state l.state) (take l.file-index l.files)) × (l.count ≤ l.file-index)
