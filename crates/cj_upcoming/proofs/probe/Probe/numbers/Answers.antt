-- numbers: its loop, by the next number.
use Rattle.std.proofs.Common.{◌++◌, ◌+◌, ◌-◌, ◌∷◌, [], cond, filter, ap, sym, ◌∙◌, arith}
use Rattle.std.specs.List.{range_with_len}
use Rattle.cj_upcoming.specs.Parts.{allows, numbers, first, count}
use Rattle.cj_upcoming.proofs.Places.{filter_step, grows}
use Rattle.cj_upcoming.proofs.probe.Probe.numbers.Goals as goal

pub loop-number-preserved : goal.loop-number-preserved
loop-number-preserved c =
    let p = allows c.args.self.now c.args.part in
    let n = c.loop-number.number in
    let end = first c.args.part + count c.args.part in
    grows c.loop-number.numbers.items c.push_if.new.numbers.items (cond (p n) (n ∷ []) [])
    (filter p (range_with_len (n + 1) (end - (n + 1)))) (numbers c.args.self.now c.args.part) c.in_ok-push_if.ensures
    (ap (λ ys. c.loop-number.numbers.items ++ ys)
    (sym (filter_step p n end (omega (arith, c.loop-number-test.true, c.first.ensures, c.count.ensures))))
    ∙ c.loop-number.invariant)
