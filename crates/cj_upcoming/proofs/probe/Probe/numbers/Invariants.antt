-- numbers: at each turn the numbers so far, with those of what is left, are all.
use Rattle.std.proofs.Common.{◌≡◌, ◌+◌, ◌-◌, ◌++◌, filter}
use Rattle.std.specs.List.{range_with_len}
use Rattle.cj_upcoming.specs.Parts.{allows, numbers, first, count}
use Rattle.cj_upcoming.proofs.probe.Probe.numbers.Given as goal

abbrev pub invariant-loop-number : goal.invariant-loop-number
invariant-loop-number l =
    l.numbers.items ++ filter (allows l.self l.part) (range_with_len l.number (first l.part + count l.part - l.number))
    ≡ numbers l.self l.part
