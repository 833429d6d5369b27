-- blank_count: its loop; count, at most byte-index, is how many of the bytes so far are blanks.
use Rattle.std.proofs.Common.{◌≡◌, ◌≤◌, take}
use Rattle.std.specs.List.{count_by}
use Rattle.cj_answers.specs.Hints.{is_blank}
use Rattle.cj_answers.proofs.hints.blank_count.Given as goal

abbrev pub invariant-loop-byte : goal.invariant-loop-byte
invariant-loop-byte l =
    (l.count ≡ count_by is_blank (take l.byte-index l.byte-items)) × (l.count ≤ l.byte-index)
