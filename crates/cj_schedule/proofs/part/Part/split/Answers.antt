-- Part::split: that the parts it makes keep the clause short of a Part, an end within 1,024 bytes.
use Rattle.std.proofs.Common.{arith}
use Rattle.std.specs.Option.{option_map}
use Rattle.cj_schedule.specs.Pieces.{is_mark}
use Rattle.cj_schedule.proofs.FirstSplits.{split_front, split_back}
use Rattle.cj_schedule.proofs.part.Part.split.Goals as goal

pub invariant_of-first : goal.invariant_of-first
invariant_of-first c =
    let shorter = split_front (is_mark c.args.mark) c.args.self.text.now c.split.result.0.now
    (option_map (λ s. s.now) c.split.result.1) c.split.ensures in
    record { short = omega (arith, shorter, c.args.self.short) }

pub invariant_of-result : goal.invariant_of-result
invariant_of-result c =
    let sizes = split_back (is_mark c.args.mark) c.args.self.text.now c.split.result.0.now c.in-Some.text.now
    (rw c.in-Some.is at c.split.ensures) in
    record { short = omega (arith, sizes, c.args.self.short) }
