-- marked: its ensures, from the lines and from what follows them.
use Rattle.std.proofs.Common.{◌∙◌, ap, sym, arith, rules, append_assoc, ◌++◌, string_bytes}
use Rattle.cj_answers.proofs.LineMarks.{line_marked, rest_marked}
use Rattle.cj_answers.proofs.marking.marked.Goals as goal

pub loop-line-preserved : goal.loop-line-preserved
loop-line-preserved c =
    let found = c.in-Some.ensures.byte (omega arith) (λ w o f. f) in
    let one = line_marked c.args.mark.now c.loop-line.rest.now found.2 in
    let before = append_assoc (string_bytes c.loop-line.marked) _ _
    ∙ (ap (λ xs. string_bytes c.loop-line.marked ++ xs) (sym one) ∙ c.loop-line.invariant.0) in
    (rw (c.in_ok-push_line.ensures, found.0, found.1) before, search rules)

pub returns : goal.returns
returns c =
    let none = c.in_default.ensures.byte (omega arith) (λ w o f. f) in
    rw (c.in_ok-push_rest.ensures) (rw (rest_marked c.args.mark.now c.loop-line.rest.now none) c.loop-line.invariant.0)
