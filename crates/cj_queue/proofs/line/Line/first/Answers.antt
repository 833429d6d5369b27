-- Line::first: its one clause, where front has a last key.
use Rattle.std.proofs.Common.{sym, ap, ◌∙◌}
use Rattle.cj_queue.specs.Queue.{first}
use Rattle.cj_queue.proofs.Stacks.{first_front}
use Rattle.cj_queue.proofs.line.Line.first.Goals as goal

pub returns-in-Some : goal.returns-in-Some
returns-in-Some c =
    sym (first_front c.self.inside.front.keys c.self.inside.back.keys c.in-Some.key.now (sym c.in-Some.ensures.key))
    ∙ ap (λ v. first v.keys) c.self.view_is
