-- item_lines: its loop; at each turn the text and the lines of the items left are those of all, and the place is that
-- of the last item.
use Rattle.std.proofs.Common.{◌≡◌, ◌+◌, ◌++◌, drop, string_bytes}
use Rattle.cj_check.specs.CheckList.{item_lines}
use Rattle.cj_check.proofs.check_list.item_lines.Given as goal

abbrev pub invariant-loop-answer : goal.invariant-loop-answer
invariant-loop-answer l =
    (string_bytes l.text ++ item_lines l.stream (l.place + 1) (drop l.answer-index l.answers)
    ≡ item_lines l.stream 1 l.answers) × (l.place ≡ l.answer-index)
