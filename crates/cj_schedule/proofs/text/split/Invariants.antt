-- split, its loop over i: the split of the text is what stands before i and the split of the rest.
use Rattle.std.proofs.Common.{◌≡◌, ◌++◌, take, drop}
use Rattle.cj_schedule.specs.Pieces.{split, is_mark}
use Rattle.cj_schedule.proofs.text.split.Given as goal

abbrev pub invariant-loop-i : goal.invariant-loop-i
invariant-loop-i l = split (is_mark l.mark) l.text
    ≡ (take l.i l.text ++ (split (is_mark l.mark) (drop l.i l.text)).0, (split (is_mark l.mark) (drop l.i l.text)).1)
