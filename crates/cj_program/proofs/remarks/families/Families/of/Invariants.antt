-- Families::of, its loop: the gaps gone through are counted.
use Rattle.std.proofs.Common.{take}
use Rattle.cj_program.specs.remarks.Families.{IsCounted}
use Rattle.cj_program.proofs.remarks.families.Families.of.Given as goal

abbrev pub invariant-loop-gap : goal.invariant-loop-gap
invariant-loop-gap l = IsCounted l.families (take l.gap-index l.gaps)
