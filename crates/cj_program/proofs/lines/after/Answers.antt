-- after: its ensures, where the text begins with the words.
use Rattle.std.proofs.Common.{◌≡◌, rules}
use Rattle.cj_program.proofs.Begins.{begins}
use Rattle.cj_program.proofs.lines.after.Goals as goal

pub returns-then-eq : goal.returns-then-eq
returns-then-eq c =
    let same : c.in_ok-first.first.now ≡ c.args.words.now = search rules in
    begins _ c.args.text.now c.args.words.now c.in_ok-first.first.now c.in_ok-first.rest.now
    c.in_ok-first.ensures.front c.in_ok-first.ensures.back same
