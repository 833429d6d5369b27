-- lines_of: its loop; at each turn there are the lines of the deeds gone through.
use Rattle.std.proofs.Common.{map}
use Rattle.std.specs.Prelude.{string_bytes}
use Rattle.cj_machine.specs.Out.{AreLines}
use Rattle.cj_machine.proofs.machine.out.lines_of.Given as goal

abbrev pub invariant-loop-deed : goal.invariant-loop-deed
invariant-loop-deed l = AreLines l.yielded (map string_bytes l.lines.items)
