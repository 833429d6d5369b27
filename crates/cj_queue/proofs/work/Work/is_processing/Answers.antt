-- Work::is_processing: its one clause, as a key is being worked on in the row where it has a stage.
use Rattle.std.proofs.Common.{sym, ap, ◌∙◌}
use Rattle.cj_queue.specs.Queue.{has}
use Rattle.cj_queue.proofs.StageLemmas.{held_at}
use Rattle.cj_queue.proofs.work.Work.is_processing.Goals as goal

pub returns : goal.returns
returns c =
    c.contains_key.ensures ∙ sym (held_at c.self.inside.busy.entries c.args.key.now)
    ∙ ap (λ v. has v.row.processing c.args.key.now) c.self.view_is
