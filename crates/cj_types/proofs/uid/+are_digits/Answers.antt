-- are_digits: its one clause, where the count is 0, by the last digit, and where there is none.
use Rattle.std.proofs.Common.{◌∙◌, ◌-◌, arith}
use Rattle.cj_types.proofs.UidDigits.{same_digit, other_digit, no_digits, all_digits}
use Rattle.cj_types.proofs.uid.+are_digits.Goals as goal

pub returns-then-count-eq0 : goal.returns-then-count-eq0
returns-then-count-eq0 t c =
    c.is_empty.ensures ∙ all_digits c.args.bytes.now c.args.count c.args.number c.if-count-eq0.true

pub returns-then-ends : goal.returns-then-ends
returns-then-ends t c =
    same_digit c.args.bytes.now c.in-Some.rest.now c.in-Some.last.now c.hex_digit.result (c.args.count - 1) c.args.count
    c.args.number c.are_digits.result c.in-Some.ensures.cases.0 (omega arith) c.hex_digit.ensures c.if-ends.true
    c.are_digits.ensures

pub returns-else-ends : goal.returns-else-ends
returns-else-ends t c =
    other_digit c.args.bytes.now c.in-Some.rest.now c.in-Some.last.now c.hex_digit.result (c.args.count - 1)
    c.args.count c.args.number c.in-Some.ensures.cases.0 (omega arith) c.hex_digit.ensures c.if-ends.false

pub returns-in-None : goal.returns-in-None
returns-in-None t c =
    no_digits c.args.bytes.now (c.args.count - 1) c.args.count c.args.number c.in-None.ensures.cases (omega arith)
