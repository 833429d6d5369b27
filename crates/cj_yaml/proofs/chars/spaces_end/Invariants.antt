-- spaces_end: how many spaces are left from the offset on.
use Rattle.std.proofs.Common.{◌≡◌, ◌≤◌, ◌+◌, drop, length}
use Rattle.cj_yaml.specs.Cursors.{is_space, leading}
use Rattle.cj_yaml.proofs.chars.spaces_end.Given as goal

abbrev pub invariant-loop-at : goal.invariant-loop-at
invariant-loop-at l =
    l.from ≤ length l.text
    → l.at + leading is_space (drop l.at l.text) ≡ l.from + leading is_space (drop l.from l.text)
