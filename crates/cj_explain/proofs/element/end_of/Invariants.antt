-- end_of, its loop over i: the end is i bytes further than that of what is left from i on.
use Rattle.std.proofs.Common.{◌≡◌, ◌+◌, drop}
use Rattle.std.specs.List.{position_or_len}
use Rattle.cj_explain.specs.Elements.{is_end}
use Rattle.cj_explain.proofs.element.end_of.Given as goal

abbrev pub invariant-loop-i : goal.invariant-loop-i
invariant-loop-i l = position_or_len is_end l.bytes ≡ l.i + position_or_len is_end (drop l.i l.bytes)
