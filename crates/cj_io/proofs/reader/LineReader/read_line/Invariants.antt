-- read_line, its loop: what was seen of the line has no end in it, is kept as far as it is, and is what came first.
use Rattle.std.proofs.Common.{ℕ, List}
use Rattle.std.specs.Io.KnownBytes.{Consumes}
use Rattle.cj_io.specs.Lines.{IsKept, IsPlain, coming}
use Rattle.cj_io.proofs.reader.LineReader.read_line.Given as goal

abbrev pub invariant-loop : goal.invariant-loop
invariant-loop g l = (seen : List ℕ) × IsPlain seen × IsKept l.self.kept l.self.line.items seen
    × Consumes (coming l.initial.self (g.R.Read.remaining l.initial.input))
    (coming l.self (g.R.Read.remaining l.input)) seen
