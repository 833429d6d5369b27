-- has_odd: such a character is in the text if it is in what is left of it.
use Rattle.std.proofs.Common.{◌≡◌, drop}
use Rattle.cj_yaml.specs.Words.{has_odd}
use Rattle.cj_yaml.proofs.escape.has_odd.Given as goal

abbrev pub invariant-loop-at : goal.invariant-loop-at
invariant-loop-at l = has_odd l.bytes ≡ has_odd (drop l.at l.bytes)
