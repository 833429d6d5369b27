-- fine_count: its loop; count, at most answer-index, is how many of the items so far are fine.
use Rattle.std.proofs.Common.{◌≡◌, ◌≤◌, take}
use Rattle.std.specs.List.{count_by}
use Rattle.cj_check.specs.CheckList.{is_fine}
use Rattle.cj_check.proofs.check_list.fine_count.Given as goal

abbrev pub invariant-loop-answer : goal.invariant-loop-answer
invariant-loop-answer l =
    (l.count ≡ count_by is_fine (take l.answer-index l.answers)) × (l.count ≤ l.answer-index)
